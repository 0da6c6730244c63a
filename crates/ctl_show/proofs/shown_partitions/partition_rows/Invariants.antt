use Rattle.std.proofs.Common.{◌≡◌, take, map, filter}
use Rattle.reply_data.specs.declared.view.Row.TheVariants as shown
use Rattle.ctl_state.specs.State.{state_of}
use Rattle.ctl_show.specs.Records.{partition_row}
use Rattle.ctl_show.specs.Standing.{is_asked}
use Rattle.ctl_show.proofs.shown_partitions.partition_rows.Given as goal

abbrev pub invariant-loop-partition : goal.invariant-loop-partition
invariant-loop-partition l =
    l.rows.items ≡ map (λ partition. shown.Partition (partition_row (state_of l.cluster) partition))
    (filter (is_asked l.asked) (take l.partition-index l.cluster.partitions))
