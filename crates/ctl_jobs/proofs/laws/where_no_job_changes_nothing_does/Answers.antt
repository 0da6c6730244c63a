use Rattle.ctl_jobs.proofs.Keeping.{idle}
use Rattle.ctl_jobs.proofs.Unlike.{only}
use Rattle.ctl_jobs.proofs.laws.where_no_job_changes_nothing_does.Goals as goal

pub returns-clause-idle : goal.returns-clause-idle
returns-clause-idle c = idle c.who_leaves_is_charged.ensures.nothing

pub returns-clause-only : goal.returns-clause-only
returns-clause-only c = only
