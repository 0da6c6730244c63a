use Rattle.ctl_state.proofs.LetGo.{sound-left}
use Rattle.ctl_state.proofs.laws.letting_go_keeps_all_sound.Goals as goal

pub returns : goal.returns
returns c = sound-left
