use Rattle.std.proofs.Common.{◌<◌, length}
use Rattle.job_table.specs.declared.record.Part.{Part}
use Rattle.ctl_show.proofs.Stands.{parts-more, parts-there}
use Rattle.ctl_show.proofs.held.count_mem_of_jobs.Goals as goal

pub count_mem-requires : goal.count_mem-requires
count_mem-requires c =
    rw (c.as_slice.ensures, c.loop-job.auto.counts)
    (parts-there (λ (part : Part). part.node < length c.args.counts.now) c.args.jobs.now c.loop-job.job-index
    c.job-item.result c.requires c.loop-job-test.true c.job-item.is)

pub loop-job-preserved : goal.loop-job-preserved
loop-job-preserved c = λ none.
    rw (
      parts-more c.args.jobs.now c.loop-job.job-index c.job-item.result c.loop-job-test.true c.job-item.is,
      ← c.as_slice.ensures,
    ) (c.count_mem.ensures _ (c.loop-job.invariant none))
