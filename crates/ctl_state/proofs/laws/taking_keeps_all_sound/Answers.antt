use Rattle.ctl_state.proofs.Taken.{sound-taken}
use Rattle.ctl_state.proofs.laws.taking_keeps_all_sound.Goals as goal

pub returns : goal.returns
returns c = sound-taken
