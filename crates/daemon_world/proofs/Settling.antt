-- What may happen to a job settles how its start ends, once.
use Rattle.std.proofs.Common.{ℕ, ◌≡◌, ◌∙◌, Bool, true, false, List, [], ◌∷◌, Option, Some, None, IfSome, refl, sym, ap, subst, inl, inr}
use Rattle.std.specs.List.{list_any}
use Rattle.std.proofs.lemmas.Bool.{both_ways, cond_both}
use Rattle.plain_data.specs.declared.limit.Limit.{Limit}
use Rattle.plain_data.specs.declared.nice.Nice.{Nice}
use Rattle.request_data.specs.declared.report.Done.{Done}
use Rattle.request_data.specs.declared.report.Report.{Report}
use Rattle.request_data.specs.declared.state.Final.{Final}
use Rattle.request_data.specs.declared.state.Final.TheVariants as final
use Rattle.request_data.specs.declared.state.JobState.{JobState}
use Rattle.request_data.specs.declared.state.JobState.TheVariants.{Pending, Running, Completing, Ended}
use Rattle.job_table.specs.declared.record.JobRecord.{JobRecord}
use Rattle.job_table.specs.declared.record.Part.{Part}
use Rattle.job_table.specs.declared.change.Change.TheVariants.{CancelPending, DropPart, Leave}
use Rattle.job_table.specs.Changes.{changed, not_again, off_node, parts_off, with_left}
use Rattle.job_table.specs.JobStates.{is_pending, is_running, left}
use Rattle.job_table.specs.Table.{has_id}
use Rattle.ctl_jobs.specs.declared.action.Action.{Action}
use Rattle.ctl_jobs.specs.declared.action.Action.TheVariants as act
use Rattle.ctl_jobs.specs.Actions.{cancelled_in, done_to, with_limit, with_nice}
use Rattle.ctl_nodes.specs.Failing.{after_loss, failed, failing, loses, off_lost, parts_kept}
use Rattle.ctl_pass.specs.Limits.{is_over, timed_out}
use Rattle.ctl_pass.specs.Preempting.{preempted}
use Rattle.ctl_node_side.specs.Reporting.{after_told, done_of, final_of as final_by, is_at, is_batch_host, is_listed, reported, script_over}
use Rattle.daemon_world.specs.Finals.{IsSettled, StaysSettled, final_of}

-- the job after something happened to it that starts nothing
pub record Settles (job after : JobRecord) : Type 0 where
  pub id : after.id ≡ job.id
  pub starts : after.starts ≡ job.starts
  pub settled : StaysSettled job.state after.state

-- ---- one after the other

on-options : (x y z : Option Final) → IfSome x (λ end. IsSettled end y) → IfSome y (λ end. IsSettled end z)
    → IfSome x (λ end. IsSettled end z)
on-options None y z one two = tt
on-options (Some end) None z one two = elim one [
  | inl never ↦ absurd (let is = never in cc)
  | inr cancels ↦ absurd (let is = cancels.1 in cc)
]
on-options (Some end) (Some later) z one two = elim one [
  | inl same ↦ let is : later ≡ end = cc in subst (λ (end : Final). IsSettled end z) is two
  | inr cancels ↦
      let is : later ≡ final.Cancelled = (let gives = cancels.1 in cc) in
      elim two [
        | inl stays ↦ inr (cancels.0, stays ∙ ap (λ (end : Final). Some end) is)
        | inr never ↦ absurd (let again = never.0 in cc)
      ]
]

pub settled_on : (one two three : JobState) → StaysSettled one two → StaysSettled two three → StaysSettled one three
settled_on one two three first second = on-options (final_of one) (final_of two) (final_of three) first second

settled-itself : (state : JobState) → StaysSettled state state
settled-itself Pending = inl refl
settled-itself Running = tt
settled-itself (Completing end) = inl refl
settled-itself (Ended end) = inl refl

pub settles_itself : (job : JobRecord) → Settles job job
settles_itself job = record { id = refl; starts = refl; settled = settled-itself job.state }

-- one whose parts and partition are at other places now
pub moved_settles : (parts : List Part) (partition : ℕ) (job : JobRecord)
    → Settles job (record job { parts = parts; partition = partition })
moved_settles parts partition job = record { id = refl; starts = refl; settled = settled-itself job.state }

pub settles_on : (job middle after : JobRecord) → Settles job middle → Settles middle after → Settles job after
settles_on job middle after one two = record {
  id = two.id ∙ one.id;
  starts = two.starts ∙ one.starts;
  settled = settled_on job.state middle.state after.state one.settled two.settled;
}

-- ---- each change

running-settles : (state after : JobState) → is_running state ≡ true → StaysSettled state after
running-settles Pending after runs = absurd (both_ways false refl runs)
running-settles Running after runs = tt
running-settles (Completing end) after runs = absurd (both_ways false refl runs)
running-settles (Ended end) after runs = absurd (both_ways false refl runs)

pending-settles : (state : JobState) → is_pending state ≡ true → StaysSettled state (Ended final.Cancelled)
pending-settles Pending waits = inr (refl, refl)
pending-settles Running waits = tt
pending-settles (Completing end) waits = absurd (both_ways false refl waits)
pending-settles (Ended end) waits = absurd (both_ways false refl waits)

pub leave_settles : (to : Final) (now : ℕ) (exit : Option ℕ) (job : JobRecord)
    → Settles job (changed (Leave to now exit) job)
leave_settles to now exit job =
    cond_both (is_running job.state) (record job { state = Completing to; ended = Some now; exit = exit }) job
    (Settles job)
    (λ runs. record { id = refl; starts = refl; settled = running-settles job.state (Completing to) runs })
    (λ other. settles_itself job)

cancel-settles : (now : ℕ) (job : JobRecord) → Settles job (changed (CancelPending now) job)
cancel-settles now job =
    cond_both (is_pending job.state) (record job { state = Ended final.Cancelled; ended = Some now }) job
    (Settles job) (λ waits. record { id = refl; starts = refl; settled = pending-settles job.state waits })
    (λ other. settles_itself job)

again-settles : (job : JobRecord) (state : JobState) → job.state ≡ state → Settles job (not_again job state)
again-settles job (Completing final.Requeue) is = record {
  id = refl;
  starts = refl;
  settled = subst (λ state. StaysSettled state (Completing final.Cancelled)) (sym is) (inr (refl, refl));
}
again-settles job state is = settles_itself job

left-final : (end : Final) → final_of (left end) ≡ Some end
left-final final.Completed = refl
left-final final.Cancelled = refl
left-final final.Failed = refl
left-final final.Timeout = refl
left-final final.NodeFail = refl
left-final final.Requeue = refl

-- a completing job with these parts left
left-settles : (now : ℕ) (end : Final) (rest : List Part) (job : JobRecord) → job.state ≡ Completing end
    → Settles job (with_left now end rest job)
left-settles now end [] job is = record {
  id = refl;
  starts = refl;
  settled = subst (λ state. StaysSettled state (left end)) (sym is) (inl (left-final end));
}
left-settles now end (part ∷ later) job is = record {
  id = refl;
  starts = refl;
  settled = settled-itself job.state;
}

off-settles : (now node : ℕ) (job : JobRecord) (state : JobState) → job.state ≡ state
    → Settles job (off_node now node job state)
off-settles now node job Pending is = settles_itself job
off-settles now node job Running is = settles_itself job
off-settles now node job (Completing end) is = left-settles now end (parts_off node job.parts) job is
off-settles now node job (Ended end) is = settles_itself job

-- a running job that fails with its node
fails-settles : (now : ℕ) (end : Final) (rest : List Part) (job middle : JobRecord) → job.state ≡ Running
    → middle.id ≡ job.id → middle.starts ≡ job.starts → Settles job (with_left now end rest middle)
fails-settles now end [] job middle is id starts = record {
  id = id;
  starts = starts;
  settled = subst (λ state. StaysSettled state (left end)) (sym is) tt;
}
fails-settles now end (part ∷ later) job middle is id starts = record {
  id = id;
  starts = starts;
  settled = subst (λ state. StaysSettled state middle.state) (sym is) tt;
}

lost-settles : (now : ℕ) (lost : ℕ → Bool) (job : JobRecord) (state : JobState) → job.state ≡ state
    → Settles job (off_lost now lost job state)
lost-settles now lost job Pending is = settles_itself job
lost-settles now lost job Running is =
    let fails = leave_settles (failing job) now None job in
    fails-settles now (failing job) (parts_kept lost job.parts) job (failed now job) is fails.id fails.starts
lost-settles now lost job (Completing end) is = left-settles now end (parts_kept lost job.parts) job is
lost-settles now lost job (Ended end) is = settles_itself job

pub loss_settles : (now : ℕ) (lost : ℕ → Bool) (job : JobRecord) → Settles job (after_loss now lost job)
loss_settles now lost job =
    cond_both (loses lost job) (off_lost now lost job job.state) job (Settles job)
    (λ some. lost-settles now lost job job.state refl) (λ none. settles_itself job)

pub over_settles : (now : ℕ) (job : JobRecord) → Settles job (timed_out now job)
over_settles now job =
    cond_both (is_over now job) (changed (Leave final.Timeout now None) job) job (Settles job)
    (λ over. leave_settles final.Timeout now None job) (λ not. settles_itself job)

pub gone_settles : (now : ℕ) (gone : List ℕ) (job : JobRecord) → Settles job (preempted now gone job)
gone_settles now gone job =
    cond_both (list_any (λ id. has_id id job) gone) (changed (Leave final.Requeue now None) job) job (Settles job)
    (λ goes. leave_settles final.Requeue now None job) (λ not. settles_itself job)

-- ---- reports

script-settles : (now node : ℕ) (done : Done) (job : JobRecord) → Settles job (script_over now node done job)
script-settles now node done job =
    cond_both (is_batch_host node job.parts) (changed (Leave (final_by done.exit) now (Some done.exit)) job) job
    (Settles job) (λ host. leave_settles (final_by done.exit) now (Some done.exit) job) (λ other. settles_itself job)

told-settles : (now node : ℕ) (report : Report) (job : JobRecord) (told : Option Done)
    → Settles job (after_told now node report job told)
told-settles now node report job None =
    cond_both (is_listed report job) job (changed (DropPart node now) job) (Settles job)
    (λ listed. settles_itself job) (λ unlisted. off-settles now node job job.state refl)
told-settles now node report job (Some done) =
    let over = script_over now node done job in
    settles_on job over (changed (DropPart node now) over) (script-settles now node done job)
    (off-settles now node over over.state refl)

pub report_settles : (now node : ℕ) (report : Report) (job : JobRecord) → Settles job (reported now node report job)
report_settles now node report job =
    cond_both (is_at node job) (after_told now node report job (done_of report job)) job (Settles job)
    (λ here. told-settles now node report job (done_of report job)) (λ off. settles_itself job)

-- ---- what users do

cancelled-settles : (now : ℕ) (job : JobRecord) (state : JobState) → Settles job (cancelled_in now job state)
cancelled-settles now job Pending = cancel-settles now job
cancelled-settles now job Running = leave_settles final.Cancelled now None job
cancelled-settles now job (Completing end) = again-settles job job.state refl
cancelled-settles now job (Ended end) = settles_itself job

limit-settles : (limit : Option Limit) (job : JobRecord) → Settles job (with_limit limit job)
limit-settles None job = settles_itself job
limit-settles (Some limit) job = record { id = refl; starts = refl; settled = settled-itself job.state }

nice-settles : (nice : Option Nice) (job : JobRecord) → Settles job (with_nice nice job)
nice-settles None job = settles_itself job
nice-settles (Some nice) job = record { id = refl; starts = refl; settled = settled-itself job.state }

pub done_settles : (now : ℕ) (user : List ℕ) (action : Action) (job : JobRecord)
    → Settles job (done_to now user action job)
done_settles now user act.Cancel job = cancelled-settles now job job.state
done_settles now user (act.Hold for_owner) job =
    record { id = refl; starts = refl; settled = settled-itself job.state }
done_settles now user act.Release job = record { id = refl; starts = refl; settled = settled-itself job.state }
done_settles now user act.Requeue job = leave_settles final.Requeue now None job
done_settles now user (act.Update limit nice) job =
    settles_on job (with_limit limit job) (with_nice nice (with_limit limit job)) (limit-settles limit job)
    (nice-settles nice (with_limit limit job))
