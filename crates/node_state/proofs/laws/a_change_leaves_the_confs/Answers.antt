use Rattle.node_state.proofs.Changes.{confs-stay, places-stay, names-stay}
use Rattle.node_state.proofs.laws.a_change_leaves_the_confs.Goals as goal

pub returns : goal.returns
returns c = record { confs = confs-stay; places = places-stay; named = names-stay }
