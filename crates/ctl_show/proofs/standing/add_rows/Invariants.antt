use Rattle.std.proofs.Common.{◌≡◌, ◌++◌, take, filter_map}
use Rattle.ctl_state.specs.State.{state_of}
use Rattle.ctl_show.specs.Standing
use Rattle.ctl_show.proofs.standing.add_rows.Given as goal

abbrev pub invariant-loop-group : goal.invariant-loop-group
invariant-loop-group l =
    l.rows.items ≡ l.initial.rows.items
    ++ filter_map (λ group. Standing.row_by l.partition group
    (Standing.names_standing (state_of l.cluster) group l.partition.nodes)) (take l.group-index Standing.groups)
