use Rattle.ctl_waiting.proofs.ranking.grounds_of.Goals as goal

pub node_orders-requires : goal.node_orders-requires
node_orders-requires c = rw (c.records.ensures.value, c.records-2.ensures.value) c.requires
