-- Only a cancel cancels.
use Rattle.std.proofs.Common.{ℕ, ◌≡◌, ◌≢◌, ◌∙◌, Bool, true, false, ◌&&◌, List, [], ◌∷◌, All, Any, Option, Some, None, refl, sym, ap, subst, inl, inr, ◌⊎◌, nat_eq}
use Rattle.std.specs.List.{list_any}
use Rattle.std.proofs.lemmas.Bool.{both_ways, cond_both}
use Rattle.std.proofs.lemmas.List.Elements.{All-weaker}
use Rattle.backfill_planner.specs.declared.Placed.{Placed}
use Rattle.reply_data.specs.declared.reply.Reply.{Reply}
use Rattle.request_data.specs.declared.report.Done.{Done}
use Rattle.request_data.specs.declared.report.Report.{Report as Told}
use Rattle.request_data.specs.declared.request.Request.{Request}
use Rattle.request_data.specs.declared.request.Request.TheVariants.{Cancel, Pass}
use Rattle.request_data.specs.declared.state.Final.{Final}
use Rattle.request_data.specs.declared.state.Final.TheVariants as final
use Rattle.request_data.specs.declared.state.JobState.{JobState}
use Rattle.request_data.specs.declared.state.JobState.TheVariants.{Pending, Running, Completing, Ended}
use Rattle.job_table.specs.declared.record.JobRecord.{JobRecord}
use Rattle.job_table.specs.declared.record.Part.{Part}
use Rattle.job_table.specs.declared.change.Change.TheVariants.{DropPart, Leave, Start}
use Rattle.job_table.specs.Changes.{changed, off_node, parts_off, with_left}
use Rattle.job_table.specs.JobStates.{is_pending, is_running, left}
use Rattle.job_table.specs.Table.{has_id}
use Rattle.ctl_state.specs.Events.{started_as}
use Rattle.ctl_state.specs.State.{State}
use Rattle.ctl_state.specs.Verdicts.{Stays}
use Rattle.ctl_jobs.specs.declared.action.Action.TheVariants as act
use Rattle.ctl_jobs.specs.Actions.{done_to}
use Rattle.ctl_jobs.specs.Changing.{are_meant, are_naming, may_do}
use Rattle.ctl_nodes.specs.Failing.{after_loss, failed, failing, loses, off_lost, parts_kept}
use Rattle.ctl_nodes.specs.Updating.{lost_by}
use Rattle.ctl_pass.specs.Limits.{is_over, timed_out}
use Rattle.ctl_pass.specs.Outcome.{outcome}
use Rattle.ctl_pass.specs.Preempting.{preempted, victims_in}
use Rattle.ctl_pass.specs.Readiness.{jobs_left, placements}
use Rattle.ctl_pass.specs.Starting.{Started, begun, may_start, start_of, started}
use Rattle.ctl_node_side.specs.Answering.{is_restarted}
use Rattle.ctl_node_side.specs.Passes.{pass_is_idle}
use Rattle.ctl_node_side.specs.Reporting.{after_told, done_of, final_of, is_at, is_batch_host, is_listed, reported, script_over}
use Rattle.ctl_node_side.specs.Silence.{any_silent, silent_at, silenced}
use Rattle.ctl_core.specs.Step.{raised, state_after}
use Rattle.step_lemmas.proofs.Making.{AsksCancel, AsksRequeue, MakesBy, made_by}
use Rattle.step_lemmas.proofs.Steps.{step_is}
use Rattle.user_laws.specs.Cancelling.{Cancels, IsCancelledBy, is_cancelled}
use Rattle.user_laws.proofs.Changes.{GoesOn, goes_itself, goes_on, leave_goes, loss_goes, mild_stays}
use Rattle.user_laws.proofs.Lists.{all_mapped, turns_itself}
use Rattle.user_laws.proofs.Old.{found_by_pass, silenced_job}
use Rattle.user_laws.proofs.Staying.{becomes_goes}
use Rattle.user_laws.proofs.Turning.{Becomes, IsNew, left_turns, met_job, step_turns, Acted, Heard, Lost, Passed}
use Rattle.daemon_world.proofs.Lists.{any_weaker}

-- who is cancelled then was so before
abbrev Kept : JobRecord → JobRecord → Type 0
Kept job after = is_cancelled after.state ≡ true → is_cancelled job.state ≡ true

-- ---- each change but a cancel

leave-kept : (end : Final) (now : ℕ) (exit : Option ℕ) (job : JobRecord) → is_cancelled (Completing end) ≡ false
    → Kept job (changed (Leave end now exit) job)
leave-kept end now exit job other =
    cond_both (is_running job.state) (record job { state = Completing end; ended = Some now; exit = exit }) job (Kept job)
    (λ ran is. absurd (both_ways (is_cancelled (Completing end)) other is)) (λ not is. is)

left-is : (end : Final) → is_cancelled (left end) ≡ true → is_cancelled (Completing end) ≡ true
left-is final.Completed is = is
left-is final.Cancelled is = refl
left-is final.Failed is = is
left-is final.Timeout is = is
left-is final.NodeFail is = is
left-is final.Requeue is = is

rest-kept : (now : ℕ) (end : Final) (rest : List Part) (before job : JobRecord)
    → (is_cancelled (Completing end) ≡ true → is_cancelled before.state ≡ true) → Kept before job
    → Kept before (with_left now end rest job)
rest-kept now end [] before job on kept = λ is. on (left-is end is)
rest-kept now end (part ∷ later) before job on kept = λ is. kept is

failing-other : (job : JobRecord) → is_cancelled (Completing (failing job)) ≡ false
failing-other job =
    cond_both job.terms.requeue final.Requeue final.NodeFail (λ (end : Final). is_cancelled (Completing end) ≡ false)
    (λ again. refl) (λ never. refl)

lost-kept : (now : ℕ) (lost : ℕ → Bool) (job : JobRecord) (state : JobState) → job.state ≡ state
    → Kept job (off_lost now lost job state)
lost-kept now lost job Pending is = λ cancelled. cancelled
lost-kept now lost job Running is =
    rest-kept now (failing job) (parts_kept lost job.parts) job (failed now job)
    (λ cancelled. absurd (both_ways (is_cancelled (Completing (failing job))) (failing-other job) cancelled))
    (leave-kept (failing job) now None job (failing-other job))
lost-kept now lost job (Completing end) is =
    rest-kept now end (parts_kept lost job.parts) job job
    (λ cancelled. subst (λ state. is_cancelled state ≡ true) (sym is) cancelled) (λ cancelled. cancelled)
lost-kept now lost job (Ended end) is = λ cancelled. cancelled

loss-kept : (now : ℕ) (lost : ℕ → Bool) (job : JobRecord) → Kept job (after_loss now lost job)
loss-kept now lost job =
    cond_both (loses lost job) (off_lost now lost job job.state) job (Kept job)
    (λ some. lost-kept now lost job job.state refl) (λ none is. is)

off-kept : (now node : ℕ) (job : JobRecord) (state : JobState) → job.state ≡ state
    → Kept job (off_node now node job state)
off-kept now node job Pending is = λ cancelled. cancelled
off-kept now node job Running is = λ cancelled. cancelled
off-kept now node job (Completing end) is =
    rest-kept now end (parts_off node job.parts) job job
    (λ cancelled. subst (λ state. is_cancelled state ≡ true) (sym is) cancelled) (λ cancelled. cancelled)
off-kept now node job (Ended end) is = λ cancelled. cancelled

-- ---- reports

by-code : (exit : ℕ) → is_cancelled (Completing (final_of exit)) ≡ false
by-code exit =
    cond_both (nat_eq exit 0) final.Completed final.Failed (λ (end : Final). is_cancelled (Completing end) ≡ false)
    (λ well. refl) (λ ill. refl)

script-kept : (now node : ℕ) (done : Done) (job : JobRecord) → Kept job (script_over now node done job)
script-kept now node done job =
    cond_both (is_batch_host node job.parts) (changed (Leave (final_of done.exit) now (Some done.exit)) job) job
    (Kept job) (λ host. leave-kept (final_of done.exit) now (Some done.exit) job (by-code done.exit)) (λ other is. is)

told-kept : (now node : ℕ) (report : Told) (job : JobRecord) (told : Option Done)
    → Kept job (after_told now node report job told)
told-kept now node report job None =
    cond_both (is_listed report job) job (changed (DropPart node now) job) (Kept job) (λ listed is. is)
    (λ unlisted. off-kept now node job job.state refl)
told-kept now node report job (Some done) =
    let over = script_over now node done job in
    λ is. script-kept now node done job (off-kept now node over over.state refl is)

report-kept : (now node : ℕ) (report : Told) (job : JobRecord) → Kept job (reported now node report job)
report-kept now node report job =
    cond_both (is_at node job) (after_told now node report job (done_of report job)) job (Kept job)
    (λ here. told-kept now node report job (done_of report job)) (λ off is. is)

heard-kept : (s : State) (now node : ℕ) (report : Told) (job : JobRecord)
    → Kept job (reported now node report (met_job s now node report job))
heard-kept s now node report job =
    let met = met_job s now node report job in
    let before : Kept job met =
    cond_both (is_restarted s report) (after_loss now (nat_eq node) job) job (Kept job)
    (λ again. loss-kept now (nat_eq node) job) (λ on is. is) in
    λ is. before (report-kept now node report met is)

-- ---- each request but a pass

same-state : (state after : JobState) → is_cancelled after ≡ true → after ≡ state → is_cancelled state ≡ true
same-state state after is same = subst (λ state. is_cancelled state ≡ true) same is

after-was : (s : State) (now : ℕ) (user : List ℕ) (request : Request) (job after : JobRecord) → request ≢ Pass
    → Becomes s now user request job after → is_cancelled after.state ≡ true
    → (is_cancelled job.state ≡ true) ⊎ Cancels s user request job
after-was s now user request job after other (Acted action named (AsksCancel targets)) is =
    cond_both (are_meant targets job && may_do s user act.Cancel job) (done_to now user act.Cancel job) job
    (λ (after : JobRecord). is_cancelled after.state ≡ true
    → (is_cancelled job.state ≡ true) ⊎ Cancels s user (Cancel targets) job)
    (λ meant cancelled. inr meant) (λ not cancelled. inl cancelled) is
after-was s now user request job after other (Acted action named (AsksRequeue target)) is =
    inl (cond_both (are_naming (target ∷ []) job && may_do s user act.Requeue job) (done_to now user act.Requeue job) job
    (Kept job) (λ meant. leave-kept final.Requeue now None job refl) (λ not cancelled. cancelled) is)
after-was s now user request job after other (Acted action named asks) is =
    inl (same-state job.state after.state is (mild_stays s now user action named job tt))
after-was s now user request job after other (Lost nodes order) is =
    inl (loss-kept now (lost_by s.nodes nodes order) job is)
after-was s now user request job after other (Heard report node) is = inl (heard-kept s now node report job is)
after-was s now user request job after other (Passed id) is = absurd (other refl)
after-was s now user request job after other any is = inl is

-- who is cancelled then was, or is by this
abbrev Was : State → List ℕ → Request → JobRecord → Type 0
Was s user request after = is_cancelled after.state ≡ true → Any (IsCancelledBy s user request after) s.jobs

itself-was : (s : State) (user : List ℕ) (request : Request) (jobs : List JobRecord)
    → All (λ (after : JobRecord). is_cancelled after.state ≡ true → Any (IsCancelledBy s user request after) jobs) jobs
itself-was s user request jobs =
    All-weaker (λ (after : JobRecord). Any (λ (job : JobRecord). after ≡ job) jobs ⊎ ⊥)
    (λ (after : JobRecord). is_cancelled after.state ≡ true → Any (IsCancelledBy s user request after) jobs)
    (λ after has is. elim has [
      | inl any ↦
          any_weaker (λ (job : JobRecord). after ≡ job) (IsCancelledBy s user request after) jobs
          (λ job same. record {
            same = record {
              id = ap (λ (job : JobRecord). job.id) (sym same);
              starts = ap (λ (job : JobRecord). job.starts) (sym same);
            };
            cancelled = inl (subst (λ (job : JobRecord). is_cancelled job.state ≡ true) same is);
          }) any
      | inr never ↦ absurd never
    ]) jobs (turns_itself (λ (job after : JobRecord). after ≡ job) (λ job. ⊥) (λ job. ⊥) jobs (λ job. refl)).was

waits-on : (state : JobState) → is_pending state ≡ true → is_cancelled state ≡ true → ⊥
waits-on Pending waits is = both_ways false refl is
waits-on Running waits is = both_ways false refl waits
waits-on (Completing end) waits is = both_ways false refl waits
waits-on (Ended end) waits is = both_ways false refl waits

other-was : (s : State) (now : ℕ) (user : List ℕ) (request : Request) → request ≢ Pass
    → All (Was s user request) (state_after s now user request).jobs
other-was s now user request other =
    let moment = raised s now in
    All-weaker
    (λ (after : JobRecord). Any (λ (job : JobRecord). Becomes s moment user request job after) s.jobs ⊎ IsNew s after)
    (Was s user request)
    (λ after has is. elim has [
      | inl any ↦
          any_weaker (λ (job : JobRecord). Becomes s moment user request job after)
          (IsCancelledBy s user request after) s.jobs
          (λ job becomes. let goes = becomes_goes s moment user request job after other becomes in
          record {
            same = record { id = sym goes.id; starts = sym goes.starts };
            cancelled = after-was s moment user request job after other becomes is;
          }) any
      | inr new ↦ absurd (waits-on after.state new.waits is)
    ]) (state_after s now user request).jobs (step_turns s now user request).was

-- ---- a pass

found-kept : (s : State) (now : ℕ) (job : JobRecord) → Kept job (found_by_pass s now job)
found-kept s now job =
    let lost = silenced_job s now job in
    let still : Kept job lost =
    cond_both (any_silent s now) (after_loss now (silent_at s now) job) job (Kept job)
    (λ some. loss-kept now (silent_at s now) job) (λ none is. is) in
    let over : Kept lost (timed_out now lost) =
    cond_both (is_over now lost) (changed (Leave final.Timeout now None) lost) lost (Kept lost)
    (λ over. leave-kept final.Timeout now None lost refl) (λ not is. is) in
    λ is. still (over is)

found-goes : (s : State) (now : ℕ) (job : JobRecord) → GoesOn job (found_by_pass s now job)
found-goes s now job =
    let lost = silenced_job s now job in
    goes_on job lost (timed_out now lost)
    (cond_both (any_silent s now) (after_loss now (silent_at s now) job) job (GoesOn job)
    (λ some. loss_goes now (silent_at s now) job) (λ none. goes_itself job))
    (cond_both (is_over now lost) (changed (Leave final.Timeout now None) lost) lost (GoesOn lost)
    (λ over. leave_goes final.Timeout now None lost) (λ not. goes_itself lost))

starts-was : (s t : State) (now : ℕ) (user : List ℕ) (jobs : List JobRecord) (plan : List Placed)
    → All (Was s user Pass) jobs → All (Was s user Pass) (started t now jobs plan).jobs
unfolding started
starts-was s t now user jobs [] all = all
starts-was s t now user jobs (placed ∷ later) all =
    let start = start_of t.nodes jobs placed in
    let P = Was s user Pass in
    cond_both (nat_eq placed.start now && may_start t jobs placed.id) _ _ (λ (after : Started). All P after.jobs)
    (λ starts. starts-was s t now user (begun now jobs start) later
    (all_mapped P P (started_as now placed.id start.parts start.nodes) jobs
    (λ job was. cond_both (has_id placed.id job) (changed (Start now start.parts start.nodes) job) job P
    (λ this never. absurd (both_ways false refl never)) (λ other. was)) all))
    (λ stays. starts-was s t now user jobs later all)

left-was : (s : State) (now : ℕ) (user : List ℕ) → All (Was s user Pass) (jobs_left (silenced s now) now)
left-was s now user =
    All-weaker (λ (after : JobRecord). Any (λ (job : JobRecord). after ≡ found_by_pass s now job) s.jobs ⊎ ⊥)
    (Was s user Pass)
    (λ after has is. elim has [
      | inl any ↦
          any_weaker (λ (job : JobRecord). after ≡ found_by_pass s now job) (IsCancelledBy s user Pass after) s.jobs
          (λ job found. let goes = found-goes s now job in
          record {
            same = record {
              id = sym (ap (λ (job : JobRecord). job.id) found ∙ goes.id);
              starts = sym (ap (λ (job : JobRecord). job.starts) found ∙ goes.starts);
            };
            cancelled = inl (found-kept s now job
                (subst (λ (one : JobRecord). is_cancelled one.state ≡ true) found is));
          }) any
      | inr never ↦ absurd never
    ]) (jobs_left (silenced s now) now) (left_turns s now).was

-- whoever goes for another is to be requeued
gone-was : (s : State) (user : List ℕ) (now : ℕ) (gone : List ℕ) (job : JobRecord) → Was s user Pass job
    → Was s user Pass (preempted now gone job)
gone-was s user now gone job was =
    let P = Was s user Pass in
    cond_both (list_any (λ id. has_id id job) gone) (changed (Leave final.Requeue now None) job) job P
    (λ goes. cond_both (is_running job.state)
    (record job { state = Completing final.Requeue; ended = Some now; exit = None }) job P
    (λ runs never. absurd (both_ways false refl never))
    (λ rests. was))
    (λ stays. was)

pass-was : (s : State) (now : ℕ) (user : List ℕ) → All (Was s user Pass) (state_after s now user Pass).jobs
pass-was s now user =
    let moment = raised s now in
    let P = Was s user Pass in
    let t = silenced s moment in
    step_is (λ (after : State). All P after.jobs) s now user Pass (itself-was s user Pass s.jobs)
    (λ reply after is. made_by (λ (reply : Reply) (after : State). All P after.jobs)
    (cond_both (pass_is_idle s moment) Stays _ (MakesBy (λ (reply : Reply) (after : State). All P after.jobs)) (λ idle. tt)
    (λ busy. all_mapped P P (preempted moment (victims_in t moment)) (outcome t moment).jobs
    (λ job was. gone-was s user moment (victims_in t moment) job was)
    (starts-was s t moment user (jobs_left t moment) (placements t moment) (left-was s moment user)))) is.makes)

-- ---- both

pass-or-other : (request : Request) → (request ≡ Pass) ⊎ (request ≢ Pass)
pass-or-other Pass = inl refl
pass-or-other request = inr (λ is. cc)

pub none_cancelled : (s : State) (now : ℕ) (user : List ℕ) (request : Request)
    → All (λ (after : JobRecord). is_cancelled after.state ≡ true → Any (IsCancelledBy s user request after) s.jobs)
    (state_after s now user request).jobs
none_cancelled s now user request = elim (pass-or-other request) [
  | inl is ↦
      subst (λ (one : Request). All (Was s user one) (state_after s now user one).jobs) (sym is) (pass-was s now user)
  | inr other ↦ other-was s now user request other
]
