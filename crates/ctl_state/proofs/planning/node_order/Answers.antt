use Rattle.ctl_state.proofs.Choosing.{order-once}
use Rattle.ctl_state.proofs.planning.node_order.Goals as goal

pub from_vec-requires : goal.from_vec-requires
from_vec-requires c =
    rw c.in_ok-sorted_places.ensures (order-once c.args.nodes.now c.args.partition.now c.requires)
