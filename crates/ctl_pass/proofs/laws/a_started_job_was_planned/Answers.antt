use Rattle.ctl_pass.proofs.Passes.{origins}
use Rattle.ctl_pass.proofs.laws.a_started_job_was_planned.Goals as goal

pub returns : goal.returns
returns c = origins
