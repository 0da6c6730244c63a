use Rattle.std.proofs.Common.{◌≡◌, map, take}
use Rattle.ctl_state.specs.Planning.{node_order}
use Rattle.ctl_waiting.proofs.ranking.node_orders.Given as goal

-- the orders of the partitions so far
abbrev pub invariant-loop-partition : goal.invariant-loop-partition
invariant-loop-partition l = l.orders.items ≡ map (node_order l.nodes) (take l.partition-index l.partitions)
