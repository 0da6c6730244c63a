use Rattle.std.proofs.Common.{◌≡◌, ◌++◌, take}
use Rattle.replay_report.specs.Outcomes.{outcomes_left}
use Rattle.replay_report.proofs.outcomes.take_all_left.Given as goal

abbrev pub invariant-loop-left : goal.invariant-loop-left
invariant-loop-left l =
    l.outcomes.items ≡ l.initial.outcomes.items ++ outcomes_left l.jobs (take l.left-index l.left_out)
