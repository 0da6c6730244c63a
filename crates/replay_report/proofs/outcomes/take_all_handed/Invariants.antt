use Rattle.std.proofs.Common.{◌≡◌, drop}
use Rattle.replay_report.proofs.Handed.{handed_behind}
use Rattle.replay_report.proofs.outcomes.take_all_handed.Given as goal

-- what is left leads to where all does
abbrev pub invariant-loop-place : goal.invariant-loop-place
invariant-loop-place l =
    handed_behind l.outcomes.items l.jobs l.replies l.place (drop l.place l.submissions) l.left
    ≡ handed_behind l.initial.outcomes.items l.jobs l.replies 0 l.submissions l.rows
