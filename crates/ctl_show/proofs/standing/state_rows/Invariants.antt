use Rattle.std.proofs.Common.{◌≡◌, filter, take}
use Rattle.std.specs.Prelude.{flat_map}
use Rattle.ctl_state.specs.State.{state_of}
use Rattle.ctl_show.specs.Standing
use Rattle.ctl_show.proofs.standing.state_rows.Given as goal

abbrev pub invariant-loop-partition : goal.invariant-loop-partition
invariant-loop-partition l =
    l.rows.items ≡ flat_map (Standing.rows_of_partition (state_of l.cluster))
    (filter (Standing.is_asked l.asked) (take l.partition-index l.cluster.partitions))
