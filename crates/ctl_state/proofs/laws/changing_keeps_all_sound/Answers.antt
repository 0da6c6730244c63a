use Rattle.ctl_state.proofs.LetGo.{plan-left, sound-changed}
use Rattle.ctl_state.proofs.laws.changing_keeps_all_sound.Goals as goal

pub returns : goal.returns
returns c = record { sound = sound-changed; plan = λ s now change sound lets. plan-left _ s.jobs s.plan sound.plan }
