use Rattle.node_state.proofs.Built.{all_on_nodes}
use Rattle.node_state.proofs.partition_laws.opened_partitions_are_on_nodes.Goals as goal

pub returns : goal.returns
returns c = all_on_nodes
