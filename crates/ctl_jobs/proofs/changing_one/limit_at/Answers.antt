use Rattle.std.proofs.Common.{◌∙◌, ap, length}
use Rattle.job_table.specs.Changes.{changed}
use Rattle.job_table.specs.declared.record.JobRecord.{JobRecord}
use Rattle.ctl_jobs.proofs.Changed.{length_map_at}
use Rattle.ctl_jobs.proofs.changing_one.limit_at.Goals as goal

pub returns-in-Some-clause-length : goal.returns-in-Some-clause-length
returns-in-Some-clause-length c =
    ap length c.change_at.ensures.records ∙ length_map_at _ c.args.place c.args.jobs.now.records
