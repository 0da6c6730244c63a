use Rattle.ctl_pass.proofs.Planned.{few-jobs}
use Rattle.ctl_pass.proofs.laws.there_are_few_jobs.Goals as goal

pub returns : goal.returns
returns c = few-jobs
