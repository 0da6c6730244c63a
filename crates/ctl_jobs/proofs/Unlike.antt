-- What is done to a job leaves it as it is exactly where it is said to.
use Rattle.std.proofs.Common.{ℕ, ◌≡◌, Bool, true, false, ◌&&◌, ◌||◌, not, List, [], ◌∷◌, map, Option, Some, None, is_none, refl, sym, ap, ◌∙◌, arith, inl, inr, true≢false}
use Rattle.std.specs.List.{list_any}
use Rattle.std.proofs.lemmas.Bool.{and_parts, both_ways, cases_Bool, cond-true, eq-eqb, eqb-true, or_from}
use Rattle.std.proofs.lemmas.Bool.Decides.{nat_tests}
use Rattle.plain_data.specs.declared.limit.Limit.{Limit}
use Rattle.plain_data.specs.declared.limit.Limit.TheVariants.{Minutes, Unlimited}
use Rattle.plain_data.specs.declared.nice.Nice.{Nice}
use Rattle.plain_data.specs.declared.nice.Nice.TheVariants.{Lower, Raise}
use Rattle.request_data.specs.declared.state.HeldBy.{HeldBy}
use Rattle.request_data.specs.declared.state.HeldBy.TheVariants as held
use Rattle.reply_data.specs.declared.refusal.Refusal.TheVariants.{AccessDenied, AlreadyDone, NotRequeueable, WrongState}
use Rattle.request_data.specs.declared.state.JobState.{JobState}
use Rattle.request_data.specs.declared.state.JobState.TheVariants.{Pending, Running, Completing, Ended}
use Rattle.job_table.specs.declared.record.JobRecord.{JobRecord}
use Rattle.ctl_state.specs.Refusals.{first_refusal, refused_if}
use Rattle.ctl_state.specs.State.{State}
use Rattle.ctl_jobs.specs.declared.action.Action.{Action}
use Rattle.ctl_jobs.specs.declared.action.Action.TheVariants.{Cancel, Hold, Release, Requeue, Update}
use Rattle.ctl_jobs.specs.Actions.{cancelled, cancelled_in, done_to, has_limit, has_nice, held_after, is_barred, is_denied, is_done, is_late, is_untimely, job_refusal, leaves, same_holder, same_limit, same_nice, with_limit, with_nice}
use Rattle.ctl_jobs.specs.Changing.{change_after, changes, done_if, goes, may_do}

-- what is told the same is the same
holder-is : (one other : HeldBy) → same_holder one other ≡ true → one ≡ other
holder-is held.Nobody held.Nobody same = refl
holder-is held.User held.User same = refl
holder-is held.Admin held.Admin same = refl
holder-is one other same = absurd cc

limit-is : (one other : Limit) → same_limit one other ≡ true → one ≡ other
limit-is (Minutes one) (Minutes other) same = ap Minutes (eqb-true one other same)
limit-is Unlimited Unlimited same = refl
limit-is one other same = absurd cc

nice-is : (one other : Nice) → same_nice one other ≡ true → one ≡ other
nice-is (Lower one) (Lower other) same = ap Lower (eqb-true one other same)
nice-is (Raise one) (Raise other) same = ap Raise (eqb-true one other same)
nice-is one other same = absurd cc

-- and the other way round
holder-same : (one : HeldBy) → same_holder one one ≡ true
holder-same held.Nobody = refl
holder-same held.User = refl
holder-same held.Admin = refl

limit-same : (one : Limit) → same_limit one one ≡ true
limit-same (Minutes minutes) = eq-eqb minutes minutes refl
limit-same Unlimited = refl

nice-same : (one : Nice) → same_nice one one ≡ true
nice-same (Lower number) = eq-eqb number number refl
nice-same (Raise number) = eq-eqb number number refl

-- a job with the limit and the nice value that it has
limited-alone : (limit : Option Limit) (job : JobRecord) → has_limit limit job ≡ true → with_limit limit job ≡ job
limited-alone None job has = refl
limited-alone (Some limit) job has =
    ap (λ other. record job { limit = other }) (sym (limit-is job.limit limit has))

nice-alone : (nice : Option Nice) (job : JobRecord) → has_nice nice job ≡ true → with_nice nice job ≡ job
nice-alone None job has = refl
nice-alone (Some nice) job has =
    ap (λ other. record job { nice = other }) (sym (nice-is job.nice nice has))

updated-alone : (limit : Option Limit) (nice : Option Nice) (job : JobRecord)
    → (has_limit limit job && has_nice nice job) ≡ true → with_nice nice (with_limit limit job) ≡ job
updated-alone limit nice job has =
    let both = and_parts (has_limit limit job) (has_nice nice job) has in
    ap (with_nice nice) (limited-alone limit job both.0) ∙ nice-alone nice job both.1

pub left-alone : (now : ℕ) (user : List ℕ) (action : Action) (job : JobRecord) → leaves user action job ≡ true
    → done_to now user action job ≡ job
left-alone now user Cancel job same = absurd cc
left-alone now user (Hold for_owner) job same =
    ap (λ by. record job { held_by = by }) (holder-is (held_after user for_owner job) job.held_by same)
left-alone now user Release job same =
    ap (λ by. record job { held_by = by }) (holder-is held.Nobody job.held_by same)
left-alone now user Requeue job same = absurd cc
left-alone now user (Update limit nice) job same = updated-alone limit nice job same

-- a job that has become what it was has its limit and its nice value
limit-had : (limit : Limit) (job : JobRecord) → limit ≡ job.limit → has_limit (Some limit) job ≡ true
limit-had limit job own = rw (sym own) (limit-same limit)

limited-had : (limit : Option Limit) (nice : Option Nice) (job : JobRecord)
    → with_nice nice (with_limit limit job) ≡ job → has_limit limit job ≡ true
limited-had None nice job same = refl
limited-had (Some limit) None job same =
    limit-had limit job (ap (λ (one : JobRecord). one.limit) same)
limited-had (Some limit) (Some nice) job same =
    limit-had limit job (ap (λ (one : JobRecord). one.limit) same)

nice-had : (limit : Option Limit) (nice : Option Nice) (job : JobRecord)
    → with_nice nice (with_limit limit job) ≡ job → has_nice nice job ≡ true
nice-had limit None job same = refl
nice-had None (Some nice) job same = rw (sym (ap (λ (one : JobRecord). one.nice) same)) (nice-same nice)
nice-had (Some limit) (Some nice) job same = rw (sym (ap (λ (one : JobRecord). one.nice) same)) (nice-same nice)

-- what may be done isn't too late, and the job's state allows it
free-of : (a b c d : Bool)
    → is_none (first_refusal (refused_if a AccessDenied ∷ refused_if b AlreadyDone ∷ refused_if c WrongState
    ∷ refused_if d NotRequeueable ∷ [])) ≡ true
    → (b ≡ false) × (c ≡ false)
free-of false false false d free = (refl, refl)
free-of false false true d free = absurd cc
free-of false true c d free = absurd cc
free-of true b c d free = absurd cc

in-time : (s : State) (user : List ℕ) (action : Action) (job : JobRecord) → may_do s user action job ≡ true
    → (is_late action job.state ≡ false) × (is_untimely action job.state ≡ false)
unfolding job_refusal
in-time s user action job free =
    free-of (is_denied s user action job) (is_late action job.state) (is_untimely action job.state)
    (is_barred action job) free

-- a job that is cancelled is done; one that is requeued completes
done : (now : ℕ) (job : JobRecord) (state : JobState) → job.state ≡ state
    → is_done (cancelled_in now job state).state ≡ true
done now job state is = grind (arith, nat_tests)

requeued : (now : ℕ) (user : List ℕ) (job : JobRecord) (state : JobState) → job.state ≡ state
    → is_late Requeue state ≡ false → is_untimely Requeue state ≡ false
    → is_late Requeue (done_to now user Requeue job).state ≡ true
requeued now user job Pending is on runs = absurd cc
requeued now user job Running is on runs = rw is refl
requeued now user job (Completing end) is on runs = absurd cc
requeued now user job (Ended end) is on runs = absurd cc

-- so where a job changes it isn't as it was
unlike-done : (s : State) (now : ℕ) (user : List ℕ) (action : Action) (job : JobRecord)
    → may_do s user action job ≡ true → done_to now user action job ≡ job → leaves user action job ≡ true
unlike-done s now user Cancel job free same =
    let on = (in-time s user Cancel job free).0 in
    let over : is_done job.state ≡ true =
    ap (λ (one : JobRecord). is_done one.state) (sym same) ∙ done now job job.state refl in
    absurd (both_ways (is_done job.state) on over)
unlike-done s now user (Hold for_owner) job free same =
    rw (ap (λ (one : JobRecord). one.held_by) same) (holder-same job.held_by)
unlike-done s now user Release job free same =
    rw (ap (λ (one : JobRecord). one.held_by) same) (holder-same job.held_by)
unlike-done s now user Requeue job free same =
    let on = in-time s user Requeue job free in
    let over : is_late Requeue job.state ≡ true =
    ap (λ (one : JobRecord). is_late Requeue one.state) (sym same)
    ∙ requeued now user job job.state refl on.0 on.1 in
    absurd (both_ways (is_late Requeue job.state) on.0 over)
unlike-done s now user (Update limit nice) job free same =
    rw (limited-had limit nice job same, nice-had limit nice job same) refl

none_goes : (s : State) (now : ℕ) (user : List ℕ) (action : Action) (named : JobRecord → Bool) (jobs : List JobRecord)
    → map (done_if s now user action named) jobs ≡ jobs → list_any (goes s user action named) jobs ≡ false
none_goes s now user action named [] same = refl
none_goes s now user action named (job ∷ jobs) same =
    let change = done_if s now user action named in
    let here : change job ≡ job = cc in
    let rest : map change jobs ≡ jobs = cc in
    let stays : goes s user action named job ≡ false = elim (cases_Bool (named job && may_do s user action job)) [
      | inl both ↦
          let parts = and_parts (named job) (may_do s user action job) both in
          let made : done_to now user action job ≡ job =
          sym (cond-true (named job && may_do s user action job) (done_to now user action job) job both) ∙ here in
          rw (unlike-done s now user action job parts.1 made, parts.0, parts.1) refl
      | inr other ↦ not_both (named job) (may_do s user action job) (leaves user action job) other
    ] in
    or_from _ _ stays (none_goes s now user action named jobs rest)
  where
    not_both : (a b c : Bool) → (a && b) ≡ false → (a && (b && not c)) ≡ false
    not_both false b c other = refl
    not_both true false c other = refl
    not_both true true c other = absurd cc

pub only : (s : State) (now : ℕ) (user : List ℕ) (action : Action) (named : JobRecord → Bool)
    → change_after s now user action named ≡ s → list_any (goes s user action named) s.jobs ≡ false
only s now user action named same = none_goes s now user action named s.jobs (ap (λ (state : State). state.jobs) same)
