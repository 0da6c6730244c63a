use Rattle.ctl_state.proofs.Taken.{others-wait}
use Rattle.ctl_state.proofs.laws.others_wait_on.Goals as goal

pub returns : goal.returns
returns c = others-wait
