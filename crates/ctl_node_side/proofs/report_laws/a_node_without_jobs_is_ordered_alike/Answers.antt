use Rattle.ctl_node_side.proofs.Empty.{ordered_alike}
use Rattle.ctl_node_side.proofs.report_laws.a_node_without_jobs_is_ordered_alike.Goals as goal

pub returns : goal.returns
returns c = ordered_alike
