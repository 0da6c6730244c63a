use Rattle.std.proofs.Common.{ℕ, ◌∙◌, ◌≡◌, ap, false, get_or, length, refl, sym}
use Rattle.std.proofs.lemmas.List.Elements.{at_read}
use Rattle.std.proofs.lemmas.Option.{slice_get_read}
use Rattle.plain_data.specs.Rows.{has_id}
use Rattle.job_table.specs.declared.change.Change.TheVariants.{DropPart}
use Rattle.job_table.specs.declared.record.JobRecord.{JobRecord}
use Rattle.job_table.specs.Changes.{changed}
use Rattle.job_table.specs.JobStates.{is_running}
use Rattle.job_table.specs.Walks.{map_at}
use Rattle.ctl_nodes.specs.Failing.{after_loss}
use Rattle.ctl_nodes.proofs.Lost.{left_alike, left_all, left_fewer, left_stops}
use Rattle.ctl_nodes.proofs.Walked.{at_map_at, length_map_at, less_at}
use Rattle.ctl_nodes.proofs.failing.leave_nodes.Goals as goal

pub loop-node-smaller : goal.loop-node-smaller
loop-node-smaller c =
    let jobs = c.loop-node.jobs.records in
    let job = c.index-records-place.result in
    let size : JobRecord → ℕ = λ job. length job.parts in
    let read = rw c.records.ensures.value at c.index-records-place.is in
    rw c.change_at.ensures.records
    (less_at size (changed (DropPart c.in-Some.node c.args.now)) c.args.place jobs job
    (slice_get_read jobs (length jobs) c.args.place job refl c.loop-node.invariant.there read)
    (left_fewer c.args.now (has_id c.args.lost.now) c.in-Some.node job (sym c.node_to_leave.ensures ∙ c.in-Some.is)))

pub loop-node-preserved : goal.loop-node-preserved
loop-node-preserved c =
    let held = c.loop-node.invariant in
    let jobs = c.loop-node.jobs.records in
    let job = c.index-records-place.result in
    let now = c.args.now in
    let node = c.in-Some.node in
    let lost = has_id c.args.lost.now in
    let place = c.args.place in
    let off : JobRecord → JobRecord = changed (DropPart node now) in
    let change : JobRecord → JobRecord = after_loss now lost in
    let read = rw c.records.ensures.value at c.index-records-place.is in
    let is = c.change_at.ensures.records in
    record {
      there = rw (is, length_map_at off place jobs) held.there;
      stopped = rw is
          (at_map_at (λ (job : JobRecord). is_running job.state ≡ false) off place jobs held.there
          (λ d. left_stops now node (get_or jobs place d) (held.stopped d)));
      rest = ap (map_at place change) is ∙ c.a_change_is_of_its_place.ensures.twice off change place jobs
          ∙ c.a_change_is_of_its_place.ensures.same (λ job. change (off job)) change place jobs
          (at_read jobs (λ job. change (off job) ≡ change job) place job held.there read
          (left_alike now lost node job (sym c.node_to_leave.ensures ∙ c.in-Some.is)))
          ∙ held.rest;
      charges = c.who_leaves_is_charged.ensures.on now _ _ _ held.charges (c.change_at.ensures.charges now tt);
    }

pub returns-clause-jobs : goal.returns-clause-jobs
returns-clause-jobs c =
    let held = c.loop-node.invariant in
    let jobs = c.loop-node.jobs.records in
    let job = c.index-records-place.result in
    let lost = has_id c.args.lost.now in
    let change : JobRecord → JobRecord = after_loss c.args.now lost in
    let read = rw c.records.ensures.value at c.index-records-place.is in
    sym (c.a_change_is_of_its_place.ensures.nothing change c.args.place jobs
    (at_read jobs (λ job. change job ≡ job) c.args.place job held.there read
    (left_all c.args.now lost job (rw (← read) at (held.stopped job)) (sym c.node_to_leave.ensures ∙ c.in_default.is))))
    ∙ held.rest
