use Rattle.ctl_state.proofs.Kept.{changed-lets_go}
use Rattle.ctl_state.proofs.laws.every_change_but_a_start_lets_go.Goals as goal

pub returns : goal.returns
returns c = changed-lets_go
