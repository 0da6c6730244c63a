use Rattle.ctl_reconfigure.proofs.Naming.{needed-stays}
use Rattle.ctl_reconfigure.proofs.laws.what_is_needed_stays.Goals as goal

pub returns : goal.returns
returns c = needed-stays
