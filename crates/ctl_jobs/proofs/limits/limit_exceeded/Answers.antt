use Rattle.ctl_jobs.specs.Submission.{unended}
use Rattle.ctl_jobs.proofs.Unended.{unended-counted}
use Rattle.ctl_jobs.proofs.limits.limit_exceeded.Goals as goal

pub returns : goal.returns
returns c =
    let assocs = c.args.cluster.now.assocs.records in
    let jobs = c.args.cluster.now.jobs.records in
    rw (← c.counted_of.ensures)
    (c.submit_limit.ensures (unended jobs) (λ group. unended-counted assocs jobs group))
