use Rattle.std.proofs.Common.{◌∙◌, ◌≡◌, ap, false, get_or}
use Rattle.plain_data.specs.Rows.{has_id}
use Rattle.job_table.specs.declared.record.JobRecord.{JobRecord}
use Rattle.job_table.specs.JobStates.{is_running}
use Rattle.job_table.specs.Walks.{map_at}
use Rattle.ctl_nodes.specs.Failing.{after_loss, failed}
use Rattle.ctl_nodes.proofs.Lost.{failed_alike, failed_stops}
use Rattle.ctl_nodes.proofs.Walked.{at_map_at, length_map_at}
use Rattle.ctl_nodes.proofs.failing.leave_lost.Goals as goal

pub leave_nodes-requires-clause-there : goal.leave_nodes-requires-clause-there
leave_nodes-requires-clause-there c =
    rw (c.fail.ensures.jobs, length_map_at (failed c.args.now) c.args.place c.args.jobs.now.records) c.requires.there

pub leave_nodes-requires-clause-stopped : goal.leave_nodes-requires-clause-stopped
leave_nodes-requires-clause-stopped c =
    rw c.fail.ensures.jobs
    (at_map_at (λ (job : JobRecord). is_running job.state ≡ false) (failed c.args.now) c.args.place
    c.args.jobs.now.records c.requires.there
    (λ d. failed_stops c.args.now (get_or c.args.jobs.now.records c.args.place d)))

pub returns-clause-jobs : goal.returns-clause-jobs
returns-clause-jobs c =
    let jobs = c.args.jobs.now.records in
    let now = c.args.now in
    let lost = has_id c.args.lost.now in
    let change : JobRecord → JobRecord = after_loss now lost in
    c.leave_nodes.ensures.jobs ∙ ap (map_at c.args.place change) c.fail.ensures.jobs
    ∙ c.a_change_is_of_its_place.ensures.twice (failed now) change c.args.place jobs
    ∙ c.a_change_is_of_its_place.ensures.same (λ job. change (failed now job)) change c.args.place jobs
    (λ d. failed_alike now lost (get_or jobs c.args.place d) (c.requires.loses d))

pub returns-clause-charges : goal.returns-clause-charges
returns-clause-charges c =
    c.who_leaves_is_charged.ensures.on c.args.now _ _ _ c.fail.ensures.charges c.leave_nodes.ensures.charges
