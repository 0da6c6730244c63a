-- What users do to jobs keeps all sound, and changes nothing where no job changes.
use Rattle.std.proofs.Common.{ℕ, zero, suc, ◌≡◌, ◌<◌, ◌≤◌, Bool, true, false, ◌&&◌, List, [], ◌∷◌, map, get_or, Option, None, Some, refl, sym, ap, ◌∙◌, arith, inl, inr, true≢false}
use Rattle.std.specs.List.{All, Contains, filter, list_any}
use Rattle.std.proofs.lemmas.Bool.{and_parts, cases_Bool, cond_both, eqb-false, eqb-true, or_parts}
use Rattle.std.proofs.lemmas.List.Elements.{All-head, All-tail, Contains-append_cases}
use Rattle.plain_data.specs.declared.limit.Limit.{Limit}
use Rattle.plain_data.specs.declared.nice.Nice.{Nice}
use Rattle.request_data.specs.declared.state.Final.TheVariants as final
use Rattle.request_data.specs.declared.state.HeldBy.TheVariants as held
use Rattle.request_data.specs.declared.state.JobState.{JobState}
use Rattle.request_data.specs.declared.state.JobState.TheVariants.{Pending, Running, Completing, Ended}
use Rattle.backfill_planner.specs.declared.Placed.{Placed}
use Rattle.job_table.specs.declared.record.JobRecord.{JobRecord}
use Rattle.job_table.specs.declared.change.Change.TheVariants.{CancelPending, CancelRequeue, Leave, SetHold, SetLimit, SetNice}
use Rattle.job_table.specs.JobStates.{is_pending}
use Rattle.job_table.specs.Table.{HaveRisingIds, has_id, job_with}
use Rattle.job_table.specs.Usage.{NothingCharged, charged}
use Rattle.ctl_state.specs.Events.{LetsGo, plan_left, waits}
use Rattle.ctl_state.specs.Laws.{Changing, ChangesLetGo, Charging, KeptLater, KeptOn, LetsGoNothing, LetsGoTwice, PlansLeft}
use Rattle.ctl_state.specs.Soundness.{IsKept, IsLimit, IsSound, pending_ids}
use Rattle.ctl_state.specs.State.{State, last_moment}
use Rattle.ctl_state.specs.Verdicts.{stamped}
use Rattle.ctl_jobs.specs.declared.action.Action.{Action}
use Rattle.ctl_jobs.specs.declared.action.Action.TheVariants.{Cancel, Hold, Release, Requeue, Update}
use Rattle.ctl_jobs.specs.Actions.{cancelled_in, done_to, held_after, leaves, with_limit, with_nice}
use Rattle.ctl_jobs.specs.Changing.{IsAction, change_after, changes, done_if, goes, may_do}
use Rattle.ctl_jobs.proofs.Unlike.{left-alone}

-- a job that is cancelled lets go
lets-in : ChangesLetGo → LetsGoNothing → (now : ℕ) (job : JobRecord) (state : JobState) → IsKept now job
    → LetsGo now job (cancelled_in now job state)
lets-in changes nothing now job Pending kept = changes now (CancelPending now) job refl kept
lets-in changes nothing now job Running kept = changes now (Leave final.Cancelled now None) job refl kept
lets-in changes nothing now job (Completing end) kept = changes now CancelRequeue job tt kept
lets-in changes nothing now job (Ended end) kept = nothing now job kept

-- and so does one that gets another limit or another nice value
lets-limit : ChangesLetGo → LetsGoNothing → (now : ℕ) (limit : Option Limit) (nice : Option Nice) (job : JobRecord)
    → IsAction (Update limit nice) → IsKept now job → LetsGo now job (with_limit limit job)
lets-limit changes nothing now None nice job in_range kept = nothing now job kept
lets-limit changes nothing now (Some limit) nice job in_range kept = changes now (SetLimit limit) job in_range kept

lets-nice : ChangesLetGo → LetsGoNothing → (now : ℕ) (nice : Option Nice) (job : JobRecord) → IsKept now job
    → LetsGo now job (with_nice nice job)
lets-nice changes nothing now None job kept = nothing now job kept
lets-nice changes nothing now (Some nice) job kept = changes now (SetNice nice) job tt kept

-- the laws on single jobs that it rests on
pub record JobLaws : Type 0 where
  pub changes : ChangesLetGo
  pub kept : KeptOn
  pub nothing : LetsGoNothing
  pub twice : LetsGoTwice

lets-updated : JobLaws → (now : ℕ) (limit : Option Limit) (nice : Option Nice) (job : JobRecord)
    → IsAction (Update limit nice) → IsKept now job → LetsGo now job (with_nice nice (with_limit limit job))
lets-updated laws now limit nice job in_range kept =
    let first = lets-limit laws.changes laws.nothing now limit nice job in_range kept in
    laws.twice now job (with_limit limit job) (with_nice nice (with_limit limit job)) first
    (lets-nice laws.changes laws.nothing now nice (with_limit limit job)
    (laws.kept now job (with_limit limit job) kept first))

lets-done : JobLaws → (now : ℕ) (user : List ℕ) (action : Action) (job : JobRecord) → IsAction action → IsKept now job
    → LetsGo now job (done_to now user action job)
lets-done laws now user Cancel job in_range kept = lets-in laws.changes laws.nothing now job job.state kept
lets-done laws now user (Hold for_owner) job in_range kept =
    laws.changes now (SetHold (held_after user for_owner job)) job tt kept
lets-done laws now user Release job in_range kept = laws.changes now (SetHold held.Nobody) job tt kept
lets-done laws now user Requeue job in_range kept = laws.changes now (Leave final.Requeue now None) job refl kept
lets-done laws now user (Update limit nice) job in_range kept = lets-updated laws now limit nice job in_range kept

pub sound_changed : Changing → Charging → PlansLeft → KeptLater → JobLaws
    → (s : State) (now : ℕ) (user : List ℕ) (action : Action) (named : JobRecord → Bool)
    → IsSound s → IsAction action → s.moment ≤ now → now ≤ last_moment
    → IsSound (stamped now (change_after s now user action named))
sound_changed changing charging plans later laws s now user action named sound in_range raised in_time =
    let change = done_if s now user action named in
    let lets-one : (job : JobRecord) → IsKept now job → LetsGo now job (change job) =
    λ job kept. cond_both (named job && may_do s user action job) _ job (LetsGo now job)
    (λ h. lets-done laws now user action job in_range kept) (λ h. laws.nothing now job kept) in
    let lets : All (λ job. LetsGo now job (change job)) s.jobs =
    λ k d below. lets-one (get_or s.jobs k d) (later s.moment now (get_or s.jobs k d) raised (sound.jobs k d below)) in
    charging (record s { jobs = map change s.jobs; plan = plan_left (map change s.jobs) s.plan; moment = now })
    now s.jobs (map change s.jobs)
    (changing s now change (plan_left (map change s.jobs) s.plan) sound in_time lets (plans s now change sound lets))

-- a job that doesn't change stays
stays-one : (s : State) (now : ℕ) (user : List ℕ) (action : Action) (named : JobRecord → Bool) (job : JobRecord)
    → goes s user action named job ≡ false → done_if s now user action named job ≡ job
stays-one s now user action named job none =
    cond_both (named job && may_do s user action job) _ job (λ (one : JobRecord). one ≡ job)
    (λ h. let both = and_parts (named job) (may_do s user action job) h in
    elim (cases_Bool (leaves user action job)) [
      | inl same ↦ left-alone now user action job same
      | inr other ↦ let on : true ≡ false = rw (both.0, both.1, other) at none in absurd (true≢false on)
    ])
    (λ h. refl)

-- none goes: all stay
all_stay : (s : State) (now : ℕ) (user : List ℕ) (action : Action) (named : JobRecord → Bool) (jobs : List JobRecord)
    → list_any (goes s user action named) jobs ≡ false → map (done_if s now user action named) jobs ≡ jobs
all_stay s now user action named [] none = refl
all_stay s now user action named (job ∷ jobs) none =
    let parts = or_parts (goes s user action named job) (list_any (goes s user action named) jobs) none in
    let here = stays-one s now user action named job parts.0 in
    let rest = all_stay s now user action named jobs parts.1 in
    cc

one-has : (a x k : ℕ) → k < 1 → get_or (a ∷ []) k x ≡ x → a ≡ x
one-has a x zero below is = is
one-has a x (suc k) below is = absurd (omega (arith, below))

-- numbers of pending jobs are above what all numbers are above
above : (low id : ℕ) (jobs : List JobRecord) → All (λ (job : JobRecord). low < job.id) jobs
    → Contains (pending_ids jobs) id → low < id
above low id [] all has = absurd (omega (arith, has.1))
above low id (job ∷ jobs) all has =
    let higher : JobRecord → Type 0 = λ one. low < one.id in
    let rest = above low id jobs (All-tail higher job jobs all) in
    elim (cases_Bool (is_pending job.state)) [
      | inl pending ↦ elim (Contains-append_cases (job.id ∷ []) (pending_ids jobs) id (rw pending at has)) [
        | inl first ↦ let same = one-has job.id id first.0 first.1 first.2 in
            let less = All-head higher job jobs all in omega (arith, same, less)
        | inr other ↦ rest other
      ]
      | inr other ↦ rest (rw other at has)
    ]

pub waits_there : (id : ℕ) (jobs : List JobRecord) → HaveRisingIds jobs → Contains (pending_ids jobs) id
    → waits (job_with id jobs) ≡ true
waits_there id [] rising has = absurd (omega (arith, has.1))
waits_there id (job ∷ jobs) rising has =
    let higher : All (λ (one : JobRecord). job.id < one.id) jobs =
    λ k d below. rising 0 (suc k) d (omega arith) (omega (arith, below)) in
    let later : HaveRisingIds jobs = λ i j d before within. rising (suc i) (suc j) d (omega (arith, before))
    (omega (arith, within)) in
    elim (cases_Bool (has_id id job)) [
      | inl found ↦
          let same = eqb-true job.id id found in
          rw found (elim (cases_Bool (is_pending job.state)) [
            | inl pending ↦ pending
            | inr other ↦ let less = above job.id id jobs higher (rw other at has) in absurd (omega (arith, same, less))
          ])
      | inr missed ↦
          rw missed (waits_there id jobs later (elim (cases_Bool (is_pending job.state)) [
            | inl pending ↦ elim (Contains-append_cases (job.id ∷ []) (pending_ids jobs) id (rw pending at has)) [
              | inl first ↦ absurd (eqb-false job.id id missed (one-has job.id id first.0 first.1 first.2))
              | inr other ↦ other
            ]
            | inr other ↦ rw other at has
          ]))
    ]

-- so the plan of a sound state keeps all its placements
kept_all : {X : Type 0} (test : X → Bool) (xs : List X) → All (λ x. test x ≡ true) xs → filter test xs ≡ xs
kept_all test [] all = refl
kept_all test (x ∷ xs) all = rw (All-head (λ y. test y ≡ true) x xs all)
    (ap (λ rest. x ∷ rest) (kept_all test xs (All-tail (λ y. test y ≡ true) x xs all)))

pub idle : NothingCharged → (s : State) (now : ℕ) (user : List ℕ) (action : Action) (named : JobRecord → Bool) → IsSound s
    → list_any (goes s user action named) s.jobs ≡ false → change_after s now user action named ≡ s
idle nothing s now user action named sound none =
    let plan : plan_left s.jobs s.plan ≡ s.plan =
    kept_all (λ (placed : Placed). waits (job_with placed.id s.jobs)) s.plan
    (λ k d below. waits_there (get_or s.plan k d).id s.jobs sound.rising (sound.plan.pending k d below)) in
    let usage : charged now s.jobs s.jobs s.usage ≡ s.usage =
    sym (nothing now (record { records = s.jobs; usage = s.usage })).usage in
    rw (all_stay s now user action named s.jobs none, usage) (ap (λ plan. record s { plan = plan }) plan)
