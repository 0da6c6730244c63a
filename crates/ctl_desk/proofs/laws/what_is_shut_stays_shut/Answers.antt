use Rattle.ctl_desk.proofs.Staying.{stays_shut}
use Rattle.ctl_desk.proofs.laws.what_is_shut_stays_shut.Goals as goal

pub returns : goal.returns
returns c = stays_shut
