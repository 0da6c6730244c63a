use Rattle.std.proofs.Common.{◌≡◌, take}
use Rattle.replay_report.specs.Named.{names_said}
use Rattle.replay_report.proofs.named.names_said.Given as goal

abbrev pub invariant-loop-outcome : goal.invariant-loop-outcome
invariant-loop-outcome l = l.names.items ≡ names_said l.kind (take l.outcome-index l.outcomes)
