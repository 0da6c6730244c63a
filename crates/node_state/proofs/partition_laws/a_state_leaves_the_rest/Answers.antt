use Rattle.node_state.proofs.States.{confs-stay, nodes-stay, on_nodes-stays, places-stay}
use Rattle.node_state.proofs.partition_laws.a_state_leaves_the_rest.Goals as goal

pub returns : goal.returns
returns c = record { confs = confs-stay; nodes = nodes-stay; on_nodes = on_nodes-stays; places = places-stay }
