use Rattle.std.proofs.Common.{◌≡◌, take}
use Rattle.ctl_reconfigure.specs.Names.{partition_names}
use Rattle.ctl_reconfigure.proofs.names.partition_names.Given as goal

abbrev pub invariant-loop-partition : goal.invariant-loop-partition
invariant-loop-partition l = l.names.items ≡ partition_names (take l.partition-index l.partitions)
