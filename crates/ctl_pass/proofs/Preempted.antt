-- The state once the victims of a pass are to go.
use Rattle.std.proofs.lemmas.Bool.Decides.{nat_tests}
use Rattle.std.proofs.Common.{◌≡◌, ◌≢◌, ◌⊎◌, ℕ, zero, suc, ◌+◌, ◌≤◌, ◌<◌, Bool, true, false, ◌&&◌, ◌||◌, not, cond, eqb, List, [], ◌∷◌, ◌++◌, length, map, filter, fold, get_or, All, AllPairs, Any, Contains, Option, Some, None, refl, ap, subst, sym, ◌∙◌, arith, inl, inr}
use Rattle.std.specs.List.{list_any}
use Rattle.std.specs.Prelude.{count_by}
use Rattle.std.proofs.lemmas.Bool.{and_parts, both_ways, cases_Bool, cond_both, eq-eqb, eqb-true, ne_eqb}
use Rattle.std.proofs.lemmas.List.{get_or-map, get_or_default, length-map}
use Rattle.std.proofs.lemmas.List.Elements.{All-head, All-map, All-tail, All-weaker}
use Rattle.std.proofs.lemmas.List.Folds.{list_any-append, list_any_none}
use Rattle.backfill_planner.specs.declared.Placed.{Placed}
use Rattle.request_data.specs.declared.state.Final.TheVariants.{Requeue}
use Rattle.request_data.specs.declared.state.JobState.{JobState}
use Rattle.job_table.specs.declared.record.JobRecord.{JobRecord}
use Rattle.job_table.specs.declared.record.Part.{Part}
use Rattle.job_table.specs.declared.change.Change.{Change}
use Rattle.job_table.specs.declared.change.Change.TheVariants.{Leave}
use Rattle.job_table.specs.Awaiting.{AwaitedThroughChanges}
use Rattle.job_table.specs.Changes.{changed}
use Rattle.job_table.specs.JobStates.{is_pending, is_running}
use Rattle.job_table.specs.Table.{HaveRisingIds, changed_if, has_id, job_with}
use Rattle.job_table.specs.Usage.{NothingCharged, charged}
use Rattle.ctl_state.specs.Events.{LetsGo}
use Rattle.ctl_state.specs.Holding.{parts_of}
use Rattle.ctl_state.specs.Laws.{Changing, ChangesLetGo, Charging, LetsGoNothing, OrderMoves}
use Rattle.ctl_state.specs.Soundness.{IsKept, IsSound, PlansPending, pending_ids}
use Rattle.ctl_state.specs.State.{State, last_moment}
use Rattle.ctl_state.specs.Verdicts.{stamped}
use Rattle.ctl_pass.specs.Passing.{begun_in, is_idle, jobs_ended, outcome, pass_after}
use Rattle.ctl_pass.specs.Naming.{preempts_at_all}
use Rattle.ctl_pass.specs.Preempting.{preempted, preemptor, victims_in}
use Rattle.ctl_pass.specs.Readiness.{goes, jobs_left, placements, ready}
use Rattle.ctl_pass.specs.Starting.{HasStarted}
use Rattle.ctl_pass.proofs.Lists.{Any-kept}
use Rattle.ctl_pass.proofs.Readied.{going, pending-left, running-not_ended}
use Rattle.ctl_pass.proofs.Gone.{IsOfRunning, victims-ran}
use Rattle.list_lemmas.proofs.Pairs.{pairs-head, pairs-tail}

-- the number of the job is among these
abbrev goes_too : List ℕ → JobRecord → Bool
goes_too gone job = list_any (λ id. has_id id job) gone

-- what becomes of a job: one of those that go leaves Running, and every other stays
pub by_victim : (P : JobRecord → Type 0) (now : ℕ) (gone : List ℕ) (job : JobRecord)
    → (goes_too gone job ≡ true → P (changed (Leave Requeue now None) job))
    → (goes_too gone job ≡ false → P job)
    → P (preempted now gone job)
by_victim P now gone job goes stays =
    cond_both (goes_too gone job) (changed (Leave Requeue now None) job) job P goes stays

-- nobody goes where there are none
pub map-nobody : (now : ℕ) (jobs : List JobRecord) → map (preempted now []) jobs ≡ jobs
map-nobody now [] = refl
map-nobody now (job ∷ jobs) = ap (λ rest. job ∷ rest) (map-nobody now jobs)

pub nobody-gone : NothingCharged → (s : State) (now : ℕ) → victims_in s now ≡ [] → pass_after s now ≡ begun_in s now
nobody-gone nothing s now none =
    let before = begun_in s now in
    let jobs : map (preempted now (victims_in s now)) before.jobs ≡ before.jobs =
    ap (λ gone. map (preempted now gone) before.jobs) none ∙ map-nobody now before.jobs in
    let usage : charged now before.jobs before.jobs before.usage ≡ before.usage =
    sym (nothing now (record { records = before.jobs; usage = before.usage })).usage in
    ap (λ some. record before { jobs = some; usage = charged now before.jobs some before.usage }) jobs
    ∙ ap (λ some. record before { usage = some }) usage

-- nor where preemption is off
pub nobody-off : (s : State) (now : ℕ) → preempts_at_all s.settings ≡ false → victims_in s now ≡ []
unfolding victims_in preemptor
nobody-off s now off = rw off refl

-- whoever goes runs no more
pub left-stopped : (now : ℕ) (job : JobRecord) → is_running (changed (Leave Requeue now None) job).state ≡ false
left-stopped now job = grind (arith, nat_tests)

left-id : (now : ℕ) (job : JobRecord) → (changed (Leave Requeue now None) job).id ≡ job.id
left-id now job = grind (arith, nat_tests)

pub preempted-id : (now : ℕ) (gone : List ℕ) (job : JobRecord) → (preempted now gone job).id ≡ job.id
preempted-id now gone job =
    by_victim (λ after. after.id ≡ job.id) now gone job (λ goes. left-id now job) (λ stays. refl)

pub preempted-stopped : (now : ℕ) (gone : List ℕ) (job : JobRecord) → goes_too gone (preempted now gone job) ≡ true
    → is_running (preempted now gone job).state ≡ false
preempted-stopped now gone job goes =
    let same : goes_too gone (preempted now gone job) ≡ goes_too gone job =
    ap (λ id. list_any (λ one. eqb id one) gone) (preempted-id now gone job) in
    rw (sym same ∙ goes) (left-stopped now job)

-- so a pass that changes no job takes nobody
pub nobody-went : OrderMoves JobRecord → (s : State) (now : ℕ) → (pass_after s now).jobs ≡ s.jobs
    → victims_in s now ≡ []
nobody-went moves s now same = by (victims_in s now) refl (victims-ran moves s now)
  where
    stopped : (gone : List ℕ) → victims_in s now ≡ gone
        → All (λ job. goes_too gone job ≡ true → is_running job.state ≡ false) s.jobs
    stopped gone is =
        let Stopped : JobRecord → Type 0 = λ job. goes_too gone job ≡ true → is_running job.state ≡ false in
        let jobs = (outcome s now).jobs in
        let become : map (preempted now gone) jobs ≡ s.jobs =
        ap (λ some. map (preempted now some) jobs) (sym is) ∙ same in
        subst (λ (some : List JobRecord). All Stopped some) become
        (All-map Stopped (preempted now gone) jobs (λ k d below. preempted-stopped now gone (get_or jobs k d)))

    runs-not : (id : ℕ) (rest : List ℕ) → victims_in s now ≡ id ∷ rest → IsOfRunning s.jobs id → ⊥
    runs-not id rest is (k, job, inside, found, (here, running)) =
        let stops : goes_too (id ∷ rest) job ≡ true → is_running job.state ≡ false =
        subst (λ (one : JobRecord). goes_too (id ∷ rest) one ≡ true → is_running one.state ≡ false) found
        (stopped (id ∷ rest) is k job inside) in
        let among : goes_too (id ∷ rest) job ≡ true =
        ap (λ b. b || list_any (λ one. has_id one job) rest) (eq-eqb job.id id here) in
        both_ways (is_running job.state) (stops among) running

    by : (gone : List ℕ) → victims_in s now ≡ gone → All (IsOfRunning s.jobs) gone → gone ≡ []
    by [] is ran = refl
    by (id ∷ rest) is ran = absurd (runs-not id rest is (All-head (IsOfRunning s.jobs) id rest ran))

-- those that wait are the same
pub pending-preempted : (now : ℕ) (gone : List ℕ) (jobs : List JobRecord)
    → pending_ids (map (preempted now gone) jobs) ≡ pending_ids jobs
pending-preempted now gone [] = refl
pending-preempted now gone (job ∷ jobs) =
    grind (arith, nat_tests, pending-preempted now gone jobs, running-not_ended job.state)

-- and what is held is too: who goes keeps its parts
preempted-parts : (now : ℕ) (gone : List ℕ) (job : JobRecord) → (preempted now gone job).parts ≡ job.parts
preempted-parts now gone job = grind (arith, nat_tests)

pub parts-preempted : (now : ℕ) (gone : List ℕ) (jobs : List JobRecord)
    → parts_of (map (preempted now gone) jobs) ≡ parts_of jobs
parts-preempted now gone [] = refl
parts-preempted now gone (job ∷ jobs) = rw (preempted-parts now gone job, parts-preempted now gone jobs) refl

-- one more goes
left-twice : (now : ℕ) (job : JobRecord)
    → changed (Leave Requeue now None) (changed (Leave Requeue now None) job) ≡ changed (Leave Requeue now None) job
left-twice now job = elim (cases_Bool (is_running job.state)) [
  | inl runs ↦ rw runs refl
  | inr other ↦ rw (other, other) refl
]

pub preempted-more : (now id : ℕ) (gone : List ℕ) (job : JobRecord)
    → changed_if id (Leave Requeue now None) (preempted now gone job) ≡ preempted now (gone ++ id ∷ []) job
preempted-more now id gone job =
    grind (
      arith,
      nat_tests,
      list_any-append (λ one. has_id one job) gone (id ∷ []),
      left-twice now job,
      left-id now job,
    )

pub preempted-all_more : (now id : ℕ) (gone : List ℕ) (jobs : List JobRecord)
    → map (changed_if id (Leave Requeue now None)) (map (preempted now gone) jobs) ≡ map (preempted now (gone ++ id ∷ [])) jobs
preempted-all_more now id gone [] = refl
preempted-all_more now id gone (job ∷ jobs) = rw (preempted-more now id gone job, preempted-all_more now id gone jobs) refl

-- the laws of letting go that victims rest on
pub record GoneLaws : Type 0 where
  pub changing : Changing
  pub changes : ChangesLetGo
  pub nothing : LetsGoNothing
  pub charging : Charging

-- who goes lets go: all stays sound
pub sound-gone : GoneLaws → (s : State) (now : ℕ) → now ≤ last_moment → IsSound (stamped now (begun_in s now))
    → IsSound (stamped now (pass_after s now))
sound-gone laws s now in_time sound =
    let gone = victims_in s now in
    let before = stamped now (begun_in s now) in
    let plan : PlansPending (map (preempted now gone) before.jobs) before.plan = record {
      pending = rw (pending-preempted now gone before.jobs) sound.plan.pending;
      once = sound.plan.once;
      last = sound.plan.last;
    } in
    let lets : All (λ job. LetsGo now job (preempted now gone job)) before.jobs =
    All-weaker (IsKept now) (λ job. LetsGo now job (preempted now gone job))
    (λ job kept. by_victim (LetsGo now job) now gone job
    (λ goes. laws.changes now (Leave Requeue now None) job refl kept) (λ stays. laws.nothing now job kept))
    before.jobs sound.jobs in
    laws.charging (record before { jobs = map (preempted now gone) before.jobs }) now before.jobs
    (map (preempted now gone) before.jobs)
    (laws.changing before now (preempted now gone) before.plan sound in_time lets plan)

no-both : (state : JobState) → is_running state ≡ true → is_pending state ≡ true → ⊥
no-both state runs waits = both_ways (is_pending state) (running-not_ended state runs).1 waits

-- no number is that of a job that runs and of one that waits
pub runs-or-waits : (id : ℕ) (jobs : List JobRecord) → HaveRisingIds jobs → IsOfRunning jobs id
    → Any (λ (job : JobRecord). (job.id ≡ id) × (is_pending job.state ≡ true)) jobs → ⊥
runs-or-waits id [] rising (k, job, inside, is, (here, running)) waits = absurd (omega (arith, inside))
runs-or-waits id (first ∷ later) rising (zero, job, inside, is, (here, running)) (zero, other, within, found, (there, pending)) =
    no-both first.state (ap (λ (some : JobRecord). is_running some.state) is ∙ running)
    (ap (λ (some : JobRecord). is_pending some.state) found ∙ pending)
runs-or-waits id (first ∷ later) rising (zero, job, inside, is, (here, running)) (suc i, other, within, found, (there, pending)) =
    let above = pairs-head (λ (one two : JobRecord). one.id < two.id) first later rising i other (omega (arith, within)) in
    absurd (omega (arith, above, here, there, ap (λ (one : JobRecord). one.id) is, ap (λ (one : JobRecord). one.id) found))
runs-or-waits id (first ∷ later) rising (suc k, job, inside, is, (here, running)) (zero, other, within, found, (there, pending)) =
    let above = pairs-head (λ (one two : JobRecord). one.id < two.id) first later rising k job (omega (arith, inside)) in
    absurd (omega (arith, above, here, there, ap (λ (one : JobRecord). one.id) is, ap (λ (one : JobRecord). one.id) found))
runs-or-waits id (first ∷ later) rising (suc k, job, inside, is, (here, running)) (suc i, other, within, found, (there, pending)) =
    runs-or-waits id later (pairs-tail (λ (one two : JobRecord). one.id < two.id) first later rising)
    (k, job, omega (arith, inside), is, (here, running)) (i, other, omega (arith, within), found, (there, pending))

-- a job whose number is that of a waiting one stays as it is
pub waiting-stays : (now : ℕ) (before : List JobRecord) (gone : List ℕ) (job : JobRecord) → HaveRisingIds before
    → All (IsOfRunning before) gone → Contains (pending_ids before) job.id → preempted now gone job ≡ job
waiting-stays now before gone job rising ran waits =
    let pending = Any-kept (λ (one : JobRecord). one.id) (λ (one : JobRecord). is_pending one.state) job.id before waits in
    let none : goes_too gone job ≡ false =
    list_any_none (λ id. has_id id job) gone (λ k d below.
    ne_eqb job.id (get_or gone k d) (λ same. runs-or-waits job.id before rising (rw (← same) at (ran k d below)) pending)) in
    rw none refl

-- a job that has started stays so
pub started-stays : AwaitedThroughChanges → OrderMoves JobRecord → (s : State) (now : ℕ) (placed : Placed) → IsSound s
    → Contains (pending_ids (jobs_left s now)) placed.id → Any (HasStarted now placed) (outcome s now).jobs
    → Any (HasStarted now placed) (pass_after s now).jobs
started-stays law moves s now placed sound waits (k, job, inside, is, has) =
    let gone = victims_in s now in
    let jobs = (outcome s now).jobs in
    let still : preempted now gone job ≡ job =
    waiting-stays now s.jobs gone job sound.rising (victims-ran moves s now)
    (rw has.id (rw (pending-left now (goes s now) s.jobs (going law s now)) at waits)) in (
      k,
      job,
      omega (arith, inside, length-map jobs (preempted now gone)),
      get_or-map (preempted now gone) jobs k job job inside ∙ ap (preempted now gone) is ∙ still,
      has,
    )
