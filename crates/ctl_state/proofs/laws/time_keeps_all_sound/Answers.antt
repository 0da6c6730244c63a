use Rattle.ctl_state.proofs.Shut.{sound-later}
use Rattle.ctl_state.proofs.laws.time_keeps_all_sound.Goals as goal

pub returns : goal.returns
returns c = sound-later
