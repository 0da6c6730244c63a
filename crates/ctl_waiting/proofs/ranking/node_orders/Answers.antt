use Rattle.std.proofs.Common.{length, subst, sym}
use Rattle.node_state.specs.Partitions.{IsOnNodes}
use Rattle.ctl_waiting.proofs.ranking.node_orders.Goals as goal

pub node_order-requires : goal.node_order-requires
node_order-requires c =
    subst (IsOnNodes (length c.args.nodes.now)) (sym c.partition-item.is)
    (c.requires c.loop-partition.partition-index c.partition-item.result c.loop-partition-test.true)
