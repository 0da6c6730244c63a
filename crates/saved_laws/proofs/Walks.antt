-- What every change of a job leaves true of it is true of each job after a step, where it was before, and is of new jobs.
use Rattle.std.proofs.Common.{ℕ, ◌≡◌, Bool, true, false, ◌&&◌, not, List, [], ◌∷◌, map, All, Option, Some, None, if◌then◌else◌, refl, ap, nat_eq}
use Rattle.std.specs.List.{list_any}
use Rattle.std.proofs.lemmas.Bool.{cond_both}
use Rattle.std.proofs.lemmas.List.Elements.{All-append, All-filter, All-map, All-weaker}
use Rattle.plain_data.specs.declared.job.JobDesc.{JobDesc}
use Rattle.plain_data.specs.declared.limit.Limit.{Limit}
use Rattle.plain_data.specs.declared.nice.Nice.{Nice}
use Rattle.backfill_planner.specs.declared.Placed.{Placed}
use Rattle.request_data.specs.declared.report.Done.{Done}
use Rattle.request_data.specs.declared.report.Report.{Report as Told}
use Rattle.request_data.specs.declared.request.Request.{Request}
use Rattle.request_data.specs.declared.request.Request.TheVariants.{Submit}
use Rattle.request_data.specs.declared.state.Final.{Final}
use Rattle.request_data.specs.declared.state.Final.TheVariants as final
use Rattle.request_data.specs.declared.state.JobState.{JobState}
use Rattle.request_data.specs.declared.state.JobState.TheVariants.{Pending, Running, Completing, Ended}
use Rattle.job_table.specs.declared.record.JobRecord.{JobRecord}
use Rattle.job_table.specs.declared.record.Part.{Part}
use Rattle.job_table.specs.declared.change.Change.{Change}
use Rattle.job_table.specs.declared.change.Change.TheVariants.{Start, Leave, CancelPending, CancelRequeue, DropPart, SetHold, SetLimit, SetNice}
use Rattle.job_table.specs.Changes.{changed, with_left}
use Rattle.job_table.specs.JobStates.{is_completing, is_running}
use Rattle.job_table.specs.Table.{has_id}
use Rattle.ctl_state.specs.Events.{started_as}
use Rattle.ctl_state.specs.State.{State}
use Rattle.ctl_jobs.specs.Submission.{Basis, basis_of, new_jobs}
use Rattle.ctl_jobs.specs.declared.action.Action.{Action}
use Rattle.ctl_jobs.specs.declared.action.Action.TheVariants as act
use Rattle.ctl_jobs.specs.Actions.{cancelled_in, done_to, held_after, with_limit, with_nice}
use Rattle.ctl_jobs.specs.Changing.{done_if, may_do}
use Rattle.ctl_nodes.specs.Failing.{after_loss, failed, failing, loses, off_lost, parts_kept}
use Rattle.ctl_nodes.specs.Updating.{lost_by}
use Rattle.ctl_pass.specs.Limits.{is_over, timed_out}
use Rattle.ctl_pass.specs.Passing.{outcome}
use Rattle.ctl_pass.specs.Preempting.{preempted, victims_in}
use Rattle.ctl_pass.specs.Readiness.{goes as is_gone, jobs_left, placements}
use Rattle.ctl_pass.specs.Starting.{Started, begun, may_start, start_of, started}
use Rattle.ctl_node_side.specs.Answering.{is_restarted}
use Rattle.ctl_node_side.specs.Reporting.{after_told, done_of, final_of, is_at, is_batch_host, is_listed, reported, script_over}
use Rattle.ctl_node_side.specs.Restarting.{met}
use Rattle.ctl_node_side.specs.Silence.{any_silent, silent_at, silenced}
use Rattle.ctl_reconfigure.specs.Reconfiguring.{job_after as job_moved}
use Rattle.step_lemmas.proofs.Making.{ByAction, ByPass, ByReconfigure, ByReport, BySubmit, ByUpdateNode, MayMake}

-- each change leaves it true, and so do other places in the lists of nodes and of partitions
pub record StaysTrue (J : JobRecord → Type 0) : Type 0 where
  pub changes : (change : Change) (job : JobRecord) → J job → J (changed change job)
  pub lefts : (now : ℕ) (end : Final) (parts : List Part) (job : JobRecord) → is_completing job.state ≡ true → J job
      → J (with_left now end parts job)
  pub moves : (parts : List Part) (partition : ℕ) (job : JobRecord) → J job
      → J (record job { parts = parts; partition = partition })

-- ---- one job

module _ (J : JobRecord → Type 0) (stays : StaysTrue J) where
  if-changed : (is : Bool) (change : Change) (job : JobRecord) → J job → J (if is then changed change job else job)
  if-changed true change job holds = stays.changes change job holds
  if-changed false change job holds = holds

  cancelled-true : (now : ℕ) (job : JobRecord) (state : JobState) → J job → J (cancelled_in now job state)
  cancelled-true now job Pending holds = stays.changes (CancelPending now) job holds
  cancelled-true now job Running holds = stays.changes (Leave final.Cancelled now None) job holds
  cancelled-true now job (Completing end) holds = stays.changes CancelRequeue job holds
  cancelled-true now job (Ended end) holds = holds

  limit-true : (limit : Option Limit) (job : JobRecord) → J job → J (with_limit limit job)
  limit-true None job holds = holds
  limit-true (Some limit) job holds = stays.changes (SetLimit limit) job holds

  nice-true : (nice : Option Nice) (job : JobRecord) → J job → J (with_nice nice job)
  nice-true None job holds = holds
  nice-true (Some nice) job holds = stays.changes (SetNice nice) job holds

  done-true : (now : ℕ) (user : List ℕ) (action : Action) (job : JobRecord) → J job → J (done_to now user action job)
  done-true now user act.Cancel job holds = cancelled-true now job job.state holds
  done-true now user (act.Hold for_owner) job holds = stays.changes (SetHold (held_after user for_owner job)) job holds
  done-true now user act.Release job holds = stays.changes (SetHold _) job holds
  done-true now user act.Requeue job holds = stays.changes (Leave final.Requeue now None) job holds
  done-true now user (act.Update limit nice) job holds =
      nice-true nice (with_limit limit job) (limit-true limit job holds)

  pub done_if_true : (s : State) (now : ℕ) (user : List ℕ) (action : Action) (named : JobRecord → Bool) (job : JobRecord)
      → J job → J (done_if s now user action named job)
  done_if_true s now user action named job holds =
      cond_both (named job && may_do s user action job) (done_to now user action job) job J
      (λ does. done-true now user action job holds) (λ not. holds)

  off-lost-true : (now : ℕ) (lost : ℕ → Bool) (job : JobRecord) (state : JobState) → job.state ≡ state → J job
      → J (off_lost now lost job state)
  off-lost-true now lost job Pending is holds = holds
  off-lost-true now lost job Running is holds =
      let runs : is_running job.state ≡ true = ap is_running is in
      let completes : is_completing (failed now job).state ≡ true =
      cond_both (is_running job.state) _ job (λ (after : JobRecord). is_completing after.state ≡ true) (λ does. refl)
      (λ not. absurd (let yes = runs in cc)) in
      stays.lefts now (failing job) (parts_kept lost job.parts) (failed now job) completes
      (stays.changes (Leave (failing job) now None) job holds)
  off-lost-true now lost job (Completing end) is holds =
      stays.lefts now end (parts_kept lost job.parts) job (ap is_completing is) holds
  off-lost-true now lost job (Ended end) is holds = holds

  pub loss_true : (now : ℕ) (lost : ℕ → Bool) (job : JobRecord) → J job → J (after_loss now lost job)
  loss_true now lost job holds =
      cond_both (loses lost job) (off_lost now lost job job.state) job J
      (λ loses. off-lost-true now lost job job.state refl holds) (λ not. holds)

  script-true : (now node : ℕ) (done : Done) (job : JobRecord) → J job → J (script_over now node done job)
  script-true now node done job holds =
      if-changed (is_batch_host node job.parts) (Leave (final_of done.exit) now (Some done.exit)) job holds

  told-true : (now node : ℕ) (report : Told) (job : JobRecord) (done : Option Done) → J job
      → J (after_told now node report job done)
  told-true now node report job None holds =
      cond_both (is_listed report job) job (changed (DropPart node now) job) J (λ listed. holds)
      (λ not. stays.changes (DropPart node now) job holds)
  told-true now node report job (Some done) holds =
      stays.changes (DropPart node now) (script_over now node done job) (script-true now node done job holds)

  pub reported_true : (now node : ℕ) (report : Told) (job : JobRecord) → J job → J (reported now node report job)
  reported_true now node report job holds =
      cond_both (is_at node job) (after_told now node report job (done_of report job)) job J
      (λ there. told-true now node report job (done_of report job) holds) (λ not. holds)

  pub timed_true : (now : ℕ) (job : JobRecord) → J job → J (timed_out now job)
  timed_true now job holds = if-changed (is_over now job) (Leave final.Timeout now None) job holds

  pub started_true : (now id : ℕ) (parts : List Part) (nodes : List (List ℕ)) (job : JobRecord) → J job
      → J (started_as now id parts nodes job)
  started_true now id parts nodes job holds = if-changed (has_id id job) (Start now parts nodes) job holds

  pub preempted_true : (now : ℕ) (gone : List ℕ) (job : JobRecord) → J job → J (preempted now gone job)
  preempted_true now gone job holds =
      if-changed (list_any (λ id. has_id id job) gone) (Leave final.Requeue now None) job holds

  -- ---- all jobs

  mapped : (f : JobRecord → JobRecord) → ((job : JobRecord) → J job → J (f job)) → (jobs : List JobRecord)
      → All J jobs → All J (map f jobs)
  mapped f each jobs all = All-map J f jobs (All-weaker J (λ (job : JobRecord). J (f job)) each jobs all)

  pub met_true : (s : State) (now node : ℕ) (report : Told) → All J s.jobs → All J (met s now node report).jobs
  met_true s now node report all =
      cond_both (is_restarted s report) _ s (λ (t : State). All J t.jobs)
      (λ restarted. mapped (after_loss now (nat_eq node)) (loss_true now (nat_eq node)) s.jobs all) (λ not. all)

  pub silenced_true : (s : State) (now : ℕ) → All J s.jobs → All J (silenced s now).jobs
  silenced_true s now all =
      cond_both (any_silent s now) _ s (λ (t : State). All J t.jobs)
      (λ some. mapped (after_loss now (silent_at s now)) (loss_true now (silent_at s now)) s.jobs all) (λ none. all)

  left-true : (s : State) (now : ℕ) → All J s.jobs → All J (jobs_left s now)
  left-true s now all =
      All-filter (λ (job : JobRecord). not (is_gone s now job)) J (map (timed_out now) s.jobs)
      (mapped (timed_out now) (timed_true now) s.jobs all)

  starts-true : (s : State) (now : ℕ) (jobs : List JobRecord) (plan : List Placed) → All J jobs
      → All J (started s now jobs plan).jobs
  unfolding started
  starts-true s now jobs [] all = all
  starts-true s now jobs (placed ∷ later) all =
      let start = start_of s.nodes jobs placed in
      cond_both (nat_eq placed.start now && may_start s jobs placed.id) _ _ (λ (out : Started). All J out.jobs)
      (λ starts. starts-true s now (begun now jobs start) later
      (mapped (started_as now start.id start.parts start.nodes) (started_true now start.id start.parts start.nodes) jobs all))
      (λ stays. starts-true s now jobs later all)

  -- once those have started that do
  pub begun_true : (s : State) (now : ℕ) → All J s.jobs → All J (outcome (silenced s now) now).jobs
  begun_true s now all =
      let t = silenced s now in
      starts-true t now (jobs_left t now) (placements t now) (left-true t now (silenced_true s now all))

  -- what a request makes
  pub made_true : (s : State) (moment : ℕ) (user : List ℕ) (request : Request) (after : State) → All J s.jobs
      → ((desc : JobDesc) (basis : Basis) → request ≡ Submit desc → basis_of s user desc ≡ Some basis
      → All J (new_jobs s moment user desc basis desc.array))
      → MayMake s moment user request after → All J after.jobs
  made_true s moment user request after all new (BySubmit desc basis found) =
      All-append J s.jobs (new_jobs s moment user desc basis desc.array) all (new desc basis refl found)
  made_true s moment user request after all new (ByAction action named asks) =
      mapped (done_if s moment user action named) (done_if_true s moment user action named) s.jobs all
  made_true s moment user request after all new (ByUpdateNode names order) =
      mapped (after_loss moment (lost_by s.nodes names order)) (loss_true moment (lost_by s.nodes names order)) s.jobs all
  made_true s moment user request after all new (ByReport report node found) =
      mapped (reported moment node report) (reported_true moment node report) (met s moment node report).jobs
      (met_true s moment node report all)
  made_true s moment user request after all new ByPass =
      let t = silenced s moment in
      let gone = victims_in t moment in
      mapped (preempted moment gone) (preempted_true moment gone) (outcome t moment).jobs (begun_true s moment all)
  made_true s moment user request after all new (ByReconfigure conf bytes) =
      mapped (job_moved s conf) (λ job holds. stays.moves _ _ job holds) s.jobs all
  made_true s moment user request after all new kind = all
