use Rattle.std.proofs.Common.{◌≡◌, drop}
use Rattle.replay_texts.proofs.HourLines.{lines_behind}
use Rattle.replay_texts.proofs.summary.push_hour_lines.Given as goal

abbrev pub invariant-loop-place : goal.invariant-loop-place
invariant-loop-place l =
    lines_behind l.out.items l.capacity l.first l.place (drop l.place l.hours)
    ≡ lines_behind l.initial.out.items l.capacity l.first 0 l.hours
