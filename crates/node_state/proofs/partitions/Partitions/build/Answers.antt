use Rattle.node_state.proofs.Built.{partitions-opened, all_on_nodes}
use Rattle.node_state.proofs.partitions.Partitions.build.Goals as goal

pub invariant_of-result : goal.invariant_of-result
invariant_of-result c =
    rw c.in_ok-records.ensures (partitions-opened c.args.nodes.now.records c.args.confs.items c.requires.some c.requires.few c.requires.once c.requires.one_default)

pub returns-clause-on_nodes : goal.returns-clause-on_nodes
returns-clause-on_nodes c = rw c.in_ok-records.ensures (all_on_nodes c.args.nodes.now.records _ c.args.confs.items c.requires.of_nodes)
