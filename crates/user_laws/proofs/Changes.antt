-- What becomes of a job at any request but a pass: it stays the same, its user's, by the same start, and runs only where
-- it ran.
use Rattle.std.proofs.Common.{ℕ, ◌≡◌, ◌∙◌, Bool, true, false, ◌&&◌, List, [], ◌∷◌, length, map, sum_by, Option, Some, None, refl, sym, ap, arith}
use Rattle.std.proofs.lemmas.Bool.{both_ways, cond_both}
use Rattle.std.proofs.lemmas.List.Sums.{sum_by-cons}
use Rattle.plain_data.specs.Confs.{ConfView}
use Rattle.plain_data.specs.declared.limit.Limit.{Limit}
use Rattle.plain_data.specs.declared.nice.Nice.{Nice}
use Rattle.request_data.specs.declared.report.Done.{Done}
use Rattle.request_data.specs.declared.report.Report.{Report}
use Rattle.request_data.specs.declared.state.Final.{Final}
use Rattle.request_data.specs.declared.state.Final.TheVariants as final
use Rattle.request_data.specs.declared.state.JobState.{JobState}
use Rattle.request_data.specs.declared.state.JobState.TheVariants.{Pending, Running, Completing, Ended}
use Rattle.job_table.specs.declared.record.JobRecord.{JobRecord}
use Rattle.job_table.specs.declared.record.Part.{Part}
use Rattle.job_table.specs.declared.change.Change.TheVariants.{CancelPending, DropPart, Leave}
use Rattle.job_table.specs.Changes.{changed, not_again, off_node, parts_off, with_left}
use Rattle.job_table.specs.JobStates.{is_pending, is_running, left}
use Rattle.job_table.specs.Usage.{cpus_held}
use Rattle.ctl_state.specs.State.{State}
use Rattle.ctl_jobs.specs.declared.action.Action.{Action}
use Rattle.ctl_jobs.specs.declared.action.Action.TheVariants as act
use Rattle.ctl_jobs.specs.Actions.{cancelled_in, done_to, with_limit, with_nice}
use Rattle.ctl_jobs.specs.Changing.{done_if, may_do}
use Rattle.ctl_nodes.specs.Failing.{after_loss, failed, failing, loses, off_lost, parts_kept}
use Rattle.ctl_reconfigure.specs.Reconfiguring.{job_after as job_moved, part_after}
use Rattle.ctl_node_side.specs.Reporting.{after_told, done_of, final_of, is_at, is_batch_host, is_listed, reported, script_over}
use Rattle.ctl_nodes.proofs.Lost.{failed_stops as failed-stopped}

-- it holds as many processors as it held, since the same moment
pub record Holds (job after : JobRecord) : Type 0 where
  pub cpus : cpus_held after ≡ cpus_held job
  pub started : after.started ≡ job.started

pub record GoesOn (job after : JobRecord) : Type 0 where
  pub id : after.id ≡ job.id
  pub user : after.user ≡ job.user
  pub assoc : after.assoc ≡ job.assoc
  pub starts : after.starts ≡ job.starts
  pub ran : is_running after.state ≡ true → is_running job.state ≡ true
  pub holds : is_running after.state ≡ true → Holds job after

-- who has stopped by another state and another end
stops : (job after : JobRecord) → after.id ≡ job.id → after.user ≡ job.user → after.assoc ≡ job.assoc
    → after.starts ≡ job.starts → is_running after.state ≡ false → GoesOn job after
stops job after id user assoc starts stopped = record {
  id = id;
  user = user;
  assoc = assoc;
  starts = starts;
  ran = λ runs. absurd (both_ways (is_running after.state) stopped runs);
  holds = λ runs. absurd (both_ways (is_running after.state) stopped runs);
}

-- who changes in nothing of that
runs-on : (job after : JobRecord) → after.id ≡ job.id → after.user ≡ job.user → after.assoc ≡ job.assoc
    → after.starts ≡ job.starts → after.state ≡ job.state → after.parts ≡ job.parts → after.started ≡ job.started
    → GoesOn job after
runs-on job after id user assoc starts state parts started = record {
  id = id;
  user = user;
  assoc = assoc;
  starts = starts;
  ran = λ runs. sym (ap is_running state) ∙ runs;
  holds = λ runs. record {
    cpus = ap (λ (parts : List Part). sum_by (λ (part : Part). length part.cpus) parts) parts;
    started = started;
  };
}

pub goes_itself : (job : JobRecord) → GoesOn job job
goes_itself job = runs-on job job refl refl refl refl refl refl refl

pub goes_on : (job middle after : JobRecord) → GoesOn job middle → GoesOn middle after → GoesOn job after
goes_on job middle after one two = record {
  id = two.id ∙ one.id;
  user = two.user ∙ one.user;
  assoc = two.assoc ∙ one.assoc;
  starts = two.starts ∙ one.starts;
  ran = λ runs. one.ran (two.ran runs);
  holds = λ runs.
      let first = one.holds (two.ran runs) in
      let second = two.holds runs in
      record { cpus = second.cpus ∙ first.cpus; started = second.started ∙ first.started };
}

-- the same processors on nodes at other places
pub moved_cpus : (s : State) (conf : ConfView) (parts : List Part)
    → sum_by (λ (part : Part). length part.cpus) (map (part_after s conf) parts)
    ≡ sum_by (λ (part : Part). length part.cpus) parts
moved_cpus s conf [] = refl
moved_cpus s conf (part ∷ parts) =
    omega (
      arith,
      sum_by-cons (λ (part : Part). length part.cpus) part parts,
      sum_by-cons (λ (part : Part). length part.cpus) (part_after s conf part) (map (part_after s conf) parts),
      moved_cpus s conf parts,
    )

pub moved_goes : (s : State) (conf : ConfView) (job : JobRecord) → GoesOn job (job_moved s conf job)
moved_goes s conf job = record {
  id = refl;
  user = refl;
  assoc = refl;
  starts = refl;
  ran = λ runs. runs;
  holds = λ runs. record { cpus = moved_cpus s conf job.parts; started = refl };
}

never-runs : (end : Final) → is_running (left end) ≡ false
never-runs final.Completed = refl
never-runs final.Cancelled = refl
never-runs final.Failed = refl
never-runs final.Timeout = refl
never-runs final.NodeFail = refl
never-runs final.Requeue = refl

-- ---- each change

pub leave_goes : (to : Final) (now : ℕ) (exit : Option ℕ) (job : JobRecord)
    → GoesOn job (changed (Leave to now exit) job)
leave_goes to now exit job =
    cond_both (is_running job.state) (record job { state = Completing to; ended = Some now; exit = exit }) job
    (GoesOn job)
    (λ ran. stops job (record job { state = Completing to; ended = Some now; exit = exit }) refl refl refl refl refl)
    (λ other. goes_itself job)

cancel-goes : (now : ℕ) (job : JobRecord) → GoesOn job (changed (CancelPending now) job)
cancel-goes now job =
    cond_both (is_pending job.state) (record job { state = Ended final.Cancelled; ended = Some now }) job
    (GoesOn job)
    (λ waits. stops job (record job { state = Ended final.Cancelled; ended = Some now }) refl refl refl refl refl)
    (λ other. goes_itself job)

again-goes : (job : JobRecord) (state : JobState) → GoesOn job (not_again job state)
again-goes job (Completing final.Requeue) =
    stops job (record job { state = Completing final.Cancelled }) refl refl refl refl refl
again-goes job (Completing final.Completed) = goes_itself job
again-goes job (Completing final.Cancelled) = goes_itself job
again-goes job (Completing final.Failed) = goes_itself job
again-goes job (Completing final.Timeout) = goes_itself job
again-goes job (Completing final.NodeFail) = goes_itself job
again-goes job Pending = goes_itself job
again-goes job Running = goes_itself job
again-goes job (Ended end) = goes_itself job

-- a job that doesn't run, with these parts left
left-goes : (now : ℕ) (end : Final) (rest : List Part) (job : JobRecord) → is_running job.state ≡ false
    → GoesOn job (with_left now end rest job)
left-goes now end [] job still =
    stops job (with_left now end [] job) refl refl refl refl (never-runs end)
left-goes now end (part ∷ later) job still =
    stops job (with_left now end (part ∷ later) job) refl refl refl refl still

off-goes : (now node : ℕ) (job : JobRecord) (state : JobState) → job.state ≡ state
    → GoesOn job (off_node now node job state)
off-goes now node job Pending is = goes_itself job
off-goes now node job Running is = goes_itself job
off-goes now node job (Completing end) is =
    left-goes now end (parts_off node job.parts) job (ap is_running is)
off-goes now node job (Ended end) is = goes_itself job

lost-goes : (now : ℕ) (lost : ℕ → Bool) (job : JobRecord) (state : JobState) → job.state ≡ state
    → GoesOn job (off_lost now lost job state)
lost-goes now lost job Pending is = goes_itself job
lost-goes now lost job Running is =
    goes_on job (failed now job) (with_left now (failing job) (parts_kept lost job.parts) (failed now job))
    (leave_goes (failing job) now None job)
    (left-goes now (failing job) (parts_kept lost job.parts) (failed now job) (failed-stopped now job))
lost-goes now lost job (Completing end) is =
    left-goes now end (parts_kept lost job.parts) job (ap is_running is)
lost-goes now lost job (Ended end) is = goes_itself job

pub loss_goes : (now : ℕ) (lost : ℕ → Bool) (job : JobRecord) → GoesOn job (after_loss now lost job)
loss_goes now lost job =
    cond_both (loses lost job) (off_lost now lost job job.state) job (GoesOn job)
    (λ some. lost-goes now lost job job.state refl) (λ none. goes_itself job)

-- ---- reports

script-goes : (now node : ℕ) (done : Done) (job : JobRecord) → GoesOn job (script_over now node done job)
script-goes now node done job =
    cond_both (is_batch_host node job.parts) (changed (Leave (final_of done.exit) now (Some done.exit)) job) job
    (GoesOn job) (λ host. leave_goes (final_of done.exit) now (Some done.exit) job) (λ other. goes_itself job)

told-goes : (now node : ℕ) (report : Report) (job : JobRecord) (told : Option Done)
    → GoesOn job (after_told now node report job told)
told-goes now node report job None =
    cond_both (is_listed report job) job (changed (DropPart node now) job) (GoesOn job) (λ listed. goes_itself job)
    (λ unlisted. off-goes now node job job.state refl)
told-goes now node report job (Some done) =
    let over = script_over now node done job in
    goes_on job over (changed (DropPart node now) over) (script-goes now node done job)
    (off-goes now node over over.state refl)

pub report_goes : (now node : ℕ) (report : Report) (job : JobRecord) → GoesOn job (reported now node report job)
report_goes now node report job =
    cond_both (is_at node job) (after_told now node report job (done_of report job)) job (GoesOn job)
    (λ here. told-goes now node report job (done_of report job)) (λ off. goes_itself job)

-- ---- what users do

cancelled-goes : (now : ℕ) (job : JobRecord) (state : JobState) → GoesOn job (cancelled_in now job state)
cancelled-goes now job Pending = cancel-goes now job
cancelled-goes now job Running = leave_goes final.Cancelled now None job
cancelled-goes now job (Completing end) = again-goes job job.state
cancelled-goes now job (Ended end) = goes_itself job

-- what changes neither the job nor its state
record StaysAs (job after : JobRecord) : Type 0 where
  pub goes : GoesOn job after
  pub state : after.state ≡ job.state

limit-stays : (limit : Option Limit) (job : JobRecord) → StaysAs job (with_limit limit job)
limit-stays None job = record { goes = goes_itself job; state = refl }
limit-stays (Some limit) job =
    record { goes = runs-on job (with_limit (Some limit) job) refl refl refl refl refl refl refl; state = refl }

nice-stays : (nice : Option Nice) (job : JobRecord) → StaysAs job (with_nice nice job)
nice-stays None job = record { goes = goes_itself job; state = refl }
nice-stays (Some nice) job =
    record { goes = runs-on job (with_nice (Some nice) job) refl refl refl refl refl refl refl; state = refl }

pub done_goes : (now : ℕ) (user : List ℕ) (action : Action) (job : JobRecord) → GoesOn job (done_to now user action job)
done_goes now user act.Cancel job = cancelled-goes now job job.state
done_goes now user (act.Hold for_owner) job =
    runs-on job (done_to now user (act.Hold for_owner) job) refl refl refl refl refl refl refl
done_goes now user act.Release job = runs-on job (done_to now user act.Release job) refl refl refl refl refl refl refl
done_goes now user act.Requeue job = leave_goes final.Requeue now None job
done_goes now user (act.Update limit nice) job =
    goes_on job (with_limit limit job) (with_nice nice (with_limit limit job)) (limit-stays limit job).goes
    (nice-stays nice (with_limit limit job)).goes

pub done_if_goes : (s : State) (now : ℕ) (user : List ℕ) (action : Action) (named : JobRecord → Bool)
    (job : JobRecord) → GoesOn job (done_if s now user action named job)
done_if_goes s now user action named job =
    cond_both (named job && may_do s user action job) (done_to now user action job) job (GoesOn job)
    (λ is. done_goes now user action job) (λ not. goes_itself job)

-- ---- what takes no job out of Running

-- the action leaves a job in its state
abbrev pub IsMild : Action → Type 0
IsMild act.Cancel = ⊥
IsMild act.Requeue = ⊥
IsMild action = Unit {0}

mild-state : (now : ℕ) (user : List ℕ) (action : Action) (job : JobRecord) → IsMild action
    → (done_to now user action job).state ≡ job.state
mild-state now user act.Cancel job mild = absurd mild
mild-state now user (act.Hold for_owner) job mild = refl
mild-state now user act.Release job mild = refl
mild-state now user act.Requeue job mild = absurd mild
mild-state now user (act.Update limit nice) job mild =
    (nice-stays nice (with_limit limit job)).state ∙ (limit-stays limit job).state

pub mild_stays : (s : State) (now : ℕ) (user : List ℕ) (action : Action) (named : JobRecord → Bool)
    (job : JobRecord) → IsMild action → (done_if s now user action named job).state ≡ job.state
mild_stays s now user action named job mild =
    cond_both (named job && may_do s user action job) (done_to now user action job) job
    (λ (after : JobRecord). after.state ≡ job.state) (λ is. mild-state now user action job mild) (λ not. refl)
