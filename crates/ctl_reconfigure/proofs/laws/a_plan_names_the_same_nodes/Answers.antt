use Rattle.ctl_reconfigure.proofs.Naming.{plan-names}
use Rattle.ctl_reconfigure.proofs.laws.a_plan_names_the_same_nodes.Goals as goal

pub returns : goal.returns
returns c = plan-names
