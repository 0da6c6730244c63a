use Rattle.std.proofs.Common.{◌≡◌, map, take}
use Rattle.ctl_saved.specs.Saving as spec
use Rattle.ctl_saved.proofs.nodes.saved_partitions.Given as goal

abbrev pub invariant-loop-partition : goal.invariant-loop-partition
invariant-loop-partition l = l.saved.items ≡ map spec.saved_partition (take l.partition-index l.partitions)
