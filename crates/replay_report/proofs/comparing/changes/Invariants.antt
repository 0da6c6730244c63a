use Rattle.std.proofs.Common.{◌≡◌, drop}
use Rattle.replay_report.specs.Changes.{changes_in}
use Rattle.replay_report.proofs.Compared.{changes_behind}
use Rattle.replay_report.proofs.comparing.changes.Given as goal

abbrev pub invariant-loop-place : goal.invariant-loop-place
invariant-loop-place l =
    changes_behind l.changes.items l.after l.place (drop l.place l.before) ≡ changes_in l.after 0 l.before
