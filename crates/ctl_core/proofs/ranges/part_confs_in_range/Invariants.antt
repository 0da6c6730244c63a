use Rattle.std.proofs.Common.{All, take}
use Rattle.ctl_reconfigure.specs.Files.{HasPartLimits}
use Rattle.ctl_core.proofs.ranges.part_confs_in_range.Given as goal

abbrev pub invariant-loop-partition : goal.invariant-loop-partition
invariant-loop-partition l = All HasPartLimits (take l.partition-index l.partitions)
