use Rattle.std.proofs.Common.{All, take}
use Rattle.ctl_state.specs.Soundness.{HasLimits}
use Rattle.ctl_restore.proofs.opening.partitions_in_range.Given as goal

abbrev pub invariant-loop-partition : goal.invariant-loop-partition
invariant-loop-partition l = All HasLimits (take l.partition-index l.partitions)
