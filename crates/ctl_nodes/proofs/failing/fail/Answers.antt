use Rattle.std.proofs.Common.{◌∙◌, ◌≡◌, ap, None}
use Rattle.std.proofs.lemmas.List.Elements.{at_read}
use Rattle.job_table.specs.declared.change.Change.TheVariants.{Leave}
use Rattle.job_table.specs.declared.record.JobRecord.{JobRecord}
use Rattle.job_table.specs.Changes.{changed}
use Rattle.ctl_nodes.specs.Failing.{failed}
use Rattle.ctl_nodes.proofs.failing.fail.Goals as goal

pub returns-clause-jobs : goal.returns-clause-jobs
returns-clause-jobs c =
    let jobs = c.args.jobs.now.records in
    let now = c.args.now in
    let job = c.index-records-place.result in
    let left : JobRecord → JobRecord = changed (Leave c.failing-to.result now None) in
    c.change_at.ensures.records
    ∙ c.a_change_is_of_its_place.ensures.same left (failed now) c.args.place jobs
    (at_read jobs (λ job. left job ≡ failed now job) c.args.place job c.requires
    (rw c.records.ensures.value at c.index-records-place.is)
    (ap (λ to. changed (Leave to now None) job) c.failing-to.ensures))
