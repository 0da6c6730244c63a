use Rattle.std.proofs.lemmas.List.{take_all}
use Rattle.std.proofs.lemmas.List.Elements.{All-more}
use Rattle.ctl_reconfigure.specs.Files.{HasPartLimits}
use Rattle.ctl_core.proofs.ranges.part_confs_in_range.Goals as goal

pub loop-partition-preserved : goal.loop-partition-preserved
loop-partition-preserved c =
    All-more HasPartLimits c.args.partitions.now c.loop-partition.partition-index c.partition-item.result
    c.loop-partition-test.true c.loop-partition.invariant
    (rw (← c.partition-item.is) c.has_part_limits.ensures)

pub returns : goal.returns
returns c =
    rw (take_all c.loop-partition.partition-index c.args.partitions.now c.loop-partition-test.false)
    at c.loop-partition.invariant
