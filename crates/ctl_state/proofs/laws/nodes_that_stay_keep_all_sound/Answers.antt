use Rattle.ctl_state.proofs.Added.{sound-held, sound-nodes}
use Rattle.ctl_state.proofs.laws.nodes_that_stay_keep_all_sound.Goals as goal

pub returns-clause-stay : goal.returns-clause-stay
returns-clause-stay c = sound-nodes

pub returns-clause-hold : goal.returns-clause-hold
returns-clause-hold c = sound-held
