-- No two of the lines so far are of one partition.
use Rattle.std.proofs.Common.{take, AllPairs}
use Rattle.std.specs.Prelude.{◌≢◌}
use Rattle.saved_data.specs.declared.parts.SavedPartition.{SavedPartition}
use Rattle.ctl_restore.proofs.partitions.are_of_others.Given as goal

abbrev pub invariant-loop-place : goal.invariant-loop-place
invariant-loop-place l = AllPairs (λ (one other : SavedPartition). one.name ≢ other.name) (take l.place l.lines)
