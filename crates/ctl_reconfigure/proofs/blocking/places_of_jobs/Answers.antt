use Rattle.std.proofs.Common.{◌<◌, subst, sym}
use Rattle.std.specs.Prelude.{nat_eq}
use Rattle.job_table.specs.declared.record.JobRecord.{JobRecord}
use Rattle.ctl_reconfigure.proofs.Anys.{any-grown}
use Rattle.ctl_reconfigure.proofs.blocking.places_of_jobs.Goals as goal

pub insert-requires : goal.insert-requires
insert-requires c =
    subst (λ (job : JobRecord). job.partition < 1024) (sym c.job-item.is)
    (c.requires c.loop-job.job-index c.job-item.result c.loop-job-test.true)

pub loop-job-preserved : goal.loop-job-preserved
loop-job-preserved c = λ place.
    any-grown (λ (job : JobRecord). nat_eq job.partition place) c.args.jobs.now c.loop-job.job-index c.job-item.result _ _
    c.loop-job-test.true c.job-item.is (c.loop-job.invariant place) (c.insert.ensures.added place)
