use Rattle.ctl_state.proofs.Shut.{sound-charged}
use Rattle.ctl_state.proofs.laws.charging_keeps_all_sound.Goals as goal

pub returns : goal.returns
returns c = sound-charged
