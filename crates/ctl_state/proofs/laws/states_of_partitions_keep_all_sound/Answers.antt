use Rattle.ctl_state.proofs.Added.{sound-states}
use Rattle.ctl_state.proofs.laws.states_of_partitions_keep_all_sound.Goals as goal

pub returns : goal.returns
returns c = sound-states c.a_state_leaves_the_rest.ensures.on_nodes
