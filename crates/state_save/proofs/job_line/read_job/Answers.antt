use Rattle.std.proofs.Common.{sym, subst}
use Rattle.state_save.specs.Savable.{JobFits}
use Rattle.state_save.proofs.JobWords.{job_fits}
use Rattle.state_save.proofs.job_line.read_job.Goals as goal

pub returns-clause-fit : goal.returns-clause-fit
returns-clause-fit c = subst JobFits (sym c.in_ok-job.ensures) (job_fits c.in_ok-groups.groups c.in_ok-groups.ensures.fit)
