use Rattle.ctl_reconfigure.proofs.Idle.{idle, only}
use Rattle.ctl_reconfigure.proofs.laws.an_idle_reconfiguration_changes_nothing.Goals as goal

pub returns : goal.returns
returns c = record { idle = idle; only = only }
