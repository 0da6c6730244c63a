use Rattle.std.proofs.Common.{◌<◌, All, subst, sym}
use Rattle.job_table.specs.declared.record.JobRecord.{JobRecord}
use Rattle.job_table.specs.declared.record.Part.{Part}
use Rattle.job_table.specs.Changes.{is_on}
use Rattle.ctl_reconfigure.proofs.Lists.{all-from_joined}
use Rattle.ctl_reconfigure.proofs.Needed.{parts-grown}
use Rattle.ctl_reconfigure.proofs.blocking.places_of_parts.Goals as goal

pub insert_parts-requires : goal.insert_parts-requires
insert_parts-requires c =
    rw c.as_slice.ensures
    (subst (λ (job : JobRecord). All (λ (part : Part). part.node < 1024) job.parts) (sym c.job-item.is)
    (all-from_joined (λ (part : Part). part.node < 1024) (λ (job : JobRecord). job.parts) c.args.jobs.now c.requires
    c.loop-job.job-index c.job-item.result c.loop-job-test.true))

pub loop-job-preserved : goal.loop-job-preserved
loop-job-preserved c = λ place.
    parts-grown (is_on place) c.args.jobs.now c.loop-job.job-index c.job-item.result _ _ c.loop-job-test.true
    c.job-item.is (c.loop-job.invariant place) (rw c.as_slice.ensures at (c.insert_parts.ensures place))
