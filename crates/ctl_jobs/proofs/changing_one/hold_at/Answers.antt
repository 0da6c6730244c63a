use Rattle.std.proofs.Common.{◌∙◌, ◌≡◌, ap, get_or}
use Rattle.job_table.specs.declared.record.JobRecord.{JobRecord}
use Rattle.job_table.specs.declared.change.Change.TheVariants.{SetHold}
use Rattle.job_table.specs.Changes.{changed}
use Rattle.ctl_jobs.specs.Actions.{held_after}
use Rattle.ctl_jobs.proofs.Changed.{changed_at}
use Rattle.ctl_jobs.proofs.changing_one.hold_at.Goals as goal

pub returns-clause-jobs : goal.returns-clause-jobs
returns-clause-jobs c =
    let jobs = c.args.jobs.now.records in
    let job = c.index-records-place.result in
    let by = held_after c.args.user.now c.args.for_owner in
    let read : job ≡ get_or jobs c.args.place job = rw c.records.ensures.value at c.index-records-place.is in
    c.change_at.ensures.records
    ∙ changed_at c.a_change_is_of_its_place.ensures.same (λ job. changed (SetHold (by job)) job) c.args.place jobs job
    (SetHold c.held_after-by.result) c.requires
    (ap (λ other. record (get_or jobs c.args.place job) { held_by = other }) (c.held_after-by.ensures ∙ ap by read))
