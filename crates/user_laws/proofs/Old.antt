-- A pass drops records of jobs alone that were old before it, and that none awaited.
use Rattle.std.proofs.Common.{ℕ, ◌≡◌, ◌∙◌, Bool, true, false, ◌&&◌, ◌+◌, not, List, [], ◌∷◌, map, Some, None, if◌then◌else◌, refl, subst, arith, inl, inr, nat_eq}
use Rattle.std.specs.Prelude.{nat_le}
use Rattle.std.specs.List.{list_any}
use Rattle.std.proofs.lemmas.Bool.{and_parts, both_ways, cases_Bool, cond_both, eqb-false, leb-true, not-true, or_from, or_parts}
use Rattle.request_data.specs.declared.request.Request.TheVariants.{Pass}
use Rattle.request_data.specs.declared.state.Final.{Final}
use Rattle.request_data.specs.declared.state.Final.TheVariants as final
use Rattle.request_data.specs.declared.state.JobState.{JobState}
use Rattle.request_data.specs.declared.state.JobState.TheVariants.{Pending, Running, Completing, Ended}
use Rattle.job_table.specs.declared.record.JobRecord.{JobRecord}
use Rattle.job_table.specs.declared.record.Part.{Part}
use Rattle.job_table.specs.declared.change.Change.TheVariants.{Leave}
use Rattle.job_table.specs.Awaiting.{awaits, is_awaited}
use Rattle.job_table.specs.Changes.{changed, with_left}
use Rattle.job_table.specs.JobStates.{is_ended, is_pending, is_running}
use Rattle.job_table.specs.Table.{is_old}
use Rattle.ctl_state.specs.State.{State}
use Rattle.ctl_nodes.specs.Failing.{after_loss, failed, failing, loses, off_lost, parts_kept}
use Rattle.ctl_pass.specs.Limits.{is_over, timed_out}
use Rattle.ctl_pass.specs.Readiness.{goes}
use Rattle.ctl_node_side.specs.Silence.{any_silent, silent_at, silenced, without_silent}
use Rattle.user_laws.specs.Staying.{HasGone}

-- the job once silent nodes are lost
abbrev pub silenced_job : State → ℕ → JobRecord → JobRecord
silenced_job s now job = if any_silent s now then after_loss now (silent_at s now) job else job

-- the job as a pass finds it, which sees to silent nodes and to limits first
abbrev pub found_by_pass : State → ℕ → JobRecord → JobRecord
found_by_pass s now job = timed_out now (silenced_job s now job)

-- ---- who is old was so before

-- who ends now isn't old
fresh : (age now : ℕ) → (not (nat_eq age 0) && nat_le (now + age) now) ≡ true → ⊥
fresh age now old =
    let parts = and_parts (not (nat_eq age 0)) (nat_le (now + age) now) old in
    let some = eqb-false age 0 (not-true (nat_eq age 0) parts.0) in
    some (omega (arith, leb-true (now + age) now parts.1))

left-fresh : (age now : ℕ) (end : Final) (job : JobRecord) → is_old age now (with_left now end [] job) ≡ true → ⊥
left-fresh age now final.Completed job old = fresh age now old
left-fresh age now final.Cancelled job old = fresh age now old
left-fresh age now final.Failed job old = fresh age now old
left-fresh age now final.Timeout job old = fresh age now old
left-fresh age now final.NodeFail job old = fresh age now old
left-fresh age now final.Requeue job old = both_ways false refl old

-- who hasn't ended isn't old
unended : (age now : ℕ) (job : JobRecord) → is_ended job.state ≡ false → is_old age now job ≡ true → ⊥
unended age now job goes old =
    both_ways (is_ended job.state) goes (and_parts (is_ended job.state) _ old).0

left-old : (age now : ℕ) (end : Final) (rest : List Part) (job : JobRecord) → is_ended job.state ≡ false
    → is_old age now (with_left now end rest job) ≡ true → ⊥
left-old age now end [] job goes old = left-fresh age now end job old
left-old age now end (part ∷ later) job goes old = unended age now (record job { parts = part ∷ later }) goes old

ran-unended : (now : ℕ) (end : Final) (job : JobRecord) → job.state ≡ Running
    → is_ended (changed (Leave end now None) job).state ≡ false
ran-unended now end job is =
    cond_both (is_running job.state) (record job { state = Completing end; ended = Some now; exit = None }) job
    (λ (after : JobRecord). is_ended after.state ≡ false) (λ runs. refl) (λ other. rw is refl)

lost-old : (age now : ℕ) (lost : ℕ → Bool) (job : JobRecord) (state : JobState) → job.state ≡ state
    → is_old age now (off_lost now lost job state) ≡ true → off_lost now lost job state ≡ job
lost-old age now lost job Pending is old = refl
lost-old age now lost job Running is old =
    absurd (left-old age now (failing job) (parts_kept lost job.parts) (failed now job)
    (ran-unended now (failing job) job is) old)
lost-old age now lost job (Completing end) is old =
    absurd (left-old age now end (parts_kept lost job.parts) job (rw is refl) old)
lost-old age now lost job (Ended end) is old = refl

loss-old : (age now : ℕ) (lost : ℕ → Bool) (job : JobRecord) → is_old age now (after_loss now lost job) ≡ true
    → after_loss now lost job ≡ job
loss-old age now lost job =
    cond_both (loses lost job) (off_lost now lost job job.state) job
    (λ (after : JobRecord). is_old age now after ≡ true → after ≡ job)
    (λ some old. lost-old age now lost job job.state refl old) (λ none old. refl)

over-old : (age now : ℕ) (job : JobRecord) → is_old age now (timed_out now job) ≡ true → timed_out now job ≡ job
over-old age now job =
    let leaves = record job { state = Completing final.Timeout; ended = Some now; exit = None } in
    let Same = λ (after : JobRecord). is_old age now after ≡ true → after ≡ job in
    cond_both (is_over now job) (changed (Leave final.Timeout now None) job) job Same
    (λ over. cond_both (is_running job.state) leaves job Same
    (λ runs old. absurd (unended age now leaves refl old)) (λ other old. refl))
    (λ not old. refl)

found-old : (s : State) (age now : ℕ) (job : JobRecord) → is_old age now (found_by_pass s now job) ≡ true
    → found_by_pass s now job ≡ job
found-old s age now job old =
    let out = over-old age now (silenced_job s now job) old in
    out ∙ cond_both (any_silent s now) (after_loss now (silent_at s now) job) job
    (λ (after : JobRecord). is_old age now after ≡ true → after ≡ job)
    (λ some old. loss-old age now (silent_at s now) job old) (λ none old. refl)
    (subst (λ (after : JobRecord). is_old age now after ≡ true) out old)

-- ---- who waits still waits once nodes are lost

pub pending_stays : (now : ℕ) (lost : ℕ → Bool) (job : JobRecord) → is_pending job.state ≡ true
    → after_loss now lost job ≡ job
pending_stays now lost job waits =
    cond_both (loses lost job) (off_lost now lost job job.state) job (λ (after : JobRecord). after ≡ job)
    (λ some. by job.state waits) (λ none. refl)
  where
    by : (state : JobState) → is_pending state ≡ true → off_lost now lost job state ≡ job
    by Pending waits = refl
    by Running waits = absurd (both_ways false refl waits)
    by (Completing end) waits = absurd (both_ways false refl waits)
    by (Ended end) waits = absurd (both_ways false refl waits)

none-awaits : (now : ℕ) (lost : ℕ → Bool) (job : JobRecord) (jobs : List JobRecord)
    → list_any (λ (waiting : JobRecord). awaits waiting job) (map (after_loss now lost) jobs) ≡ false
    → list_any (λ (waiting : JobRecord). awaits waiting job) jobs ≡ false
none-awaits now lost job [] none = refl
none-awaits now lost job (first ∷ later) none =
    let Others = list_any (λ (waiting : JobRecord). awaits waiting job) in
    let parts = or_parts (awaits (after_loss now lost first) job) (Others (map (after_loss now lost) later)) none in
    or_from (awaits first job) (Others later)
    (elim (cases_Bool (awaits first job)) [
      | inl waits ↦
          let pending = (and_parts (is_pending first.state) _ waits).0 in
          let same = pending_stays now lost first pending in
          absurd (both_ways (awaits first job)
          (subst (λ (after : JobRecord). awaits after job ≡ false) same parts.0) waits)
      | inr none ↦ none
    ])
    (none-awaits now lost job later parts.1)

unawaited : (s : State) (now : ℕ) (job : JobRecord) → is_awaited (silenced s now).jobs job ≡ false
    → is_awaited s.jobs job ≡ false
unfolding is_awaited
unawaited s now job =
    cond_both (any_silent s now) (without_silent s now) s
    (λ (t : State). is_awaited t.jobs job ≡ false → is_awaited s.jobs job ≡ false)
    (λ some none. none-awaits now (silent_at s now) job s.jobs none) (λ none same. same)

same-age : (s : State) (now : ℕ) → (silenced s now).settings.min_job_age ≡ s.settings.min_job_age
same-age s now =
    cond_both (any_silent s now) (without_silent s now) s
    (λ (t : State). t.settings.min_job_age ≡ s.settings.min_job_age) (λ some. refl) (λ none. refl)

-- ---- both

pub gone_was_old : (s : State) (now : ℕ) (job : JobRecord)
    → goes (silenced s now) now (found_by_pass s now job) ≡ true → HasGone s now Pass job
gone_was_old s now job goes =
    let t = silenced s now in
    let found = found_by_pass s now job in
    let parts = and_parts (is_old t.settings.min_job_age now found) (not (is_awaited t.jobs found)) goes in
    let same = found-old s t.settings.min_job_age now job parts.0 in
    let none = not-true (is_awaited t.jobs found) parts.1 in (
      subst (λ age. is_old age now job ≡ true) (same-age s now)
          (subst (λ (after : JobRecord). is_old t.settings.min_job_age now after ≡ true) same parts.0),
      unawaited s now job (subst (λ (after : JobRecord). is_awaited t.jobs after ≡ false) same none),
    )
