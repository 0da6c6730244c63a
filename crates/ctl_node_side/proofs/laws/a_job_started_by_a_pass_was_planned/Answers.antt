use Rattle.ctl_node_side.proofs.Running.{started_planned}
use Rattle.ctl_node_side.proofs.laws.a_job_started_by_a_pass_was_planned.Goals as goal

pub returns : goal.returns
returns c = started_planned c.a_started_job_was_planned.ensures
