use Rattle.ctl_state.proofs.Shut.{sound-shut}
use Rattle.ctl_state.proofs.laws.a_shutdown_keeps_all_sound.Goals as goal

pub returns : goal.returns
returns c = sound-shut
