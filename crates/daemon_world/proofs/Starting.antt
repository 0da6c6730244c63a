-- The starts of a pass: each is of a job that waits, so what is held stays held.
use Rattle.std.proofs.Common.{ℕ, suc, ◌≡◌, ◌≢◌, ◌∙◌, true, false, ◌&&◌, List, [], ◌∷◌, map, All, AllPairs, Any, is_none, get_or, refl, sym, ap, arith, inl, inr, nat_eq}
use Rattle.std.proofs.lemmas.Bool.{and_parts, both_ways, cond_both, eqb-true}
use Rattle.std.proofs.lemmas.List.Elements.{All-cons, All-head, All-map, All-tail, All-weaker}
use Rattle.backfill_planner.specs.declared.Placed.{Placed}
use Rattle.backfill_planner.specs.declared.job.PlanJob.{PlanJob}
use Rattle.backfill_planner.specs.Bases.{BaseView}
use Rattle.backfill_planner.specs.Plans.{plan_of}
use Rattle.job_table.specs.declared.record.JobRecord.{JobRecord}
use Rattle.job_table.specs.declared.record.Part.{Part}
use Rattle.job_table.specs.declared.change.Change.TheVariants.{Start}
use Rattle.job_table.specs.Changes.{changed}
use Rattle.job_table.specs.JobStates.{is_pending}
use Rattle.job_table.specs.Table.{HaveRisingIds, has_id}
use Rattle.ctl_state.specs.Events.{started_as}
use Rattle.ctl_state.specs.Laws.{OrderKeepsApart}
use Rattle.ctl_state.specs.State.{State}
use Rattle.ctl_waiting.specs.Candidates.{is_candidate, ranked}
use Rattle.ctl_waiting.specs.Reasons.{hindrance}
use Rattle.ctl_pass.specs.Readiness.{base_of, placements, planned, ready}
use Rattle.ctl_pass.specs.Starting.{JobStart, Started, begun, may_start, start_of, started}
use Rattle.daemon_world.proofs.Lists.{any_cases, any_map, any_none, any_weaker}
use Rattle.ctl_pass.proofs.Ranks.{ranked-apart}

-- whoever has the number waits
abbrev pub Waits : List JobRecord → ℕ → Type 0
Waits jobs id = All (λ (job : JobRecord). has_id id job ≡ true → is_pending job.state ≡ true) jobs

-- the jobs of these placements wait, and no two are of one job
pub record MayStart (jobs : List JobRecord) (plan : List Placed) : Type 0 where
  pub wait : All (λ (placed : Placed). Waits jobs placed.id) plan
  pub apart : AllPairs (λ (one other : Placed). one.id ≢ other.id) plan

-- ---- one start

-- another job waits on
other-waits : (now id : ℕ) (parts : List Part) (names : List (List ℕ)) (other : ℕ) (job : JobRecord) → id ≢ other
    → (has_id other job ≡ true → is_pending job.state ≡ true)
    → has_id other (started_as now id parts names job) ≡ true
    → is_pending (started_as now id parts names job).state ≡ true
other-waits now id parts names other job differ waits =
    cond_both (has_id id job) (changed (Start now parts names) job) job
    (λ (after : JobRecord). has_id other after ≡ true → is_pending after.state ≡ true)
    (λ is has. absurd (differ (sym (eqb-true job.id id is) ∙ eqb-true job.id other has))) (λ not. waits)

pub waits-on : (now id : ℕ) (parts : List Part) (names : List (List ℕ)) (other : ℕ) (jobs : List JobRecord) → id ≢ other
    → Waits jobs other → Waits (map (started_as now id parts names) jobs) other
waits-on now id parts names other jobs differ waits =
    All-map (λ (job : JobRecord). has_id other job ≡ true → is_pending job.state ≡ true)
    (started_as now id parts names) jobs
    (All-weaker (λ (job : JobRecord). has_id other job ≡ true → is_pending job.state ≡ true)
    (λ (job : JobRecord). has_id other (started_as now id parts names job) ≡ true
    → is_pending (started_as now id parts names job).state ≡ true)
    (λ job each. other-waits now id parts names other job differ each) jobs waits)

pub may_start_later : (jobs : List JobRecord) (placed : Placed) (later : List Placed) → MayStart jobs (placed ∷ later)
    → MayStart jobs later
may_start_later jobs placed later may = record {
  wait = All-tail (λ (placed : Placed). Waits jobs placed.id) placed later may.wait;
  apart = λ i j d before within. may.apart (suc i) (suc j) d (omega (arith, before)) (omega (arith, within));
}

pub may_start_on : (now : ℕ) (jobs : List JobRecord) (start : JobStart) (placed : Placed) (later : List Placed)
    → start.id ≡ placed.id → MayStart jobs (placed ∷ later) → MayStart (begun now jobs start) later
may_start_on now jobs start placed later is may =
    let rest = may_start_later jobs placed later may in
    record {
      wait = λ k d below. waits-on now start.id start.parts start.nodes (get_or later k d).id jobs
          (λ same. may.apart 0 (suc k) d (omega arith) (omega (arith, below)) (sym is ∙ same)) (rest.wait k d below);
      apart = rest.apart;
    }

-- ---- all starts

-- what a job has that doesn't wait, one has in the end
pub starts_any : (P : JobRecord → Type 0) → ((job : JobRecord) → P job → is_pending job.state ≡ false) → (s : State)
    (now : ℕ) (jobs : List JobRecord) (plan : List Placed) → MayStart jobs plan → Any P jobs
    → Any P (started s now jobs plan).jobs
unfolding started
starts_any P runs s now jobs [] may any = any
starts_any P runs s now jobs (placed ∷ later) may any =
    let start = start_of s.nodes jobs placed in
    let waits = All-head (λ (placed : Placed). Waits jobs placed.id) placed later may.wait in
    cond_both (nat_eq placed.start now && may_start s jobs placed.id) _ _ (λ (all : Started). Any P all.jobs)
    (λ starts. starts_any P runs s now (begun now jobs start) later (may_start_on now jobs start placed later refl may)
    (any_map (λ (job : JobRecord). has_id placed.id job ≡ true → is_pending job.state ≡ true) P P
    (started_as now placed.id start.parts start.nodes) jobs
    (λ job wait has. cond_both (has_id placed.id job) (changed (Start now start.parts start.nodes) job) job P
    (λ is. absurd (both_ways (is_pending job.state) (runs job has) (wait is))) (λ not. has)) waits any))
    (λ stays. starts_any P runs s now jobs later (may_start_later jobs placed later may) any)

-- what all have, and a start of one that waits keeps, all have in the end
pub starts_all : (Q : JobRecord → Type 0) (s : State) (now : ℕ)
    → ((job : JobRecord) (parts : List Part) (names : List (List ℕ)) → is_pending job.state ≡ true → Q job
    → Q (changed (Start now parts names) job))
    → (jobs : List JobRecord) (plan : List Placed) → MayStart jobs plan → All Q jobs
    → All Q (started s now jobs plan).jobs
unfolding started
starts_all Q s now keeps jobs [] may all = all
starts_all Q s now keeps jobs (placed ∷ later) may all =
    let start = start_of s.nodes jobs placed in
    let waits = All-head (λ (placed : Placed). Waits jobs placed.id) placed later may.wait in
    cond_both (nat_eq placed.start now && may_start s jobs placed.id) _ _ (λ (after : Started). All Q after.jobs)
    (λ starts. starts_all Q s now keeps (begun now jobs start) later
    (may_start_on now jobs start placed later refl may)
    (All-map Q (started_as now placed.id start.parts start.nodes) jobs
    (λ k d below. let job = get_or jobs k d in
    cond_both (has_id placed.id job) (changed (Start now start.parts start.nodes) job) job Q
    (λ is. keeps job start.parts start.nodes (waits k d below is) (all k d below)) (λ not. all k d below))))
    (λ stays. starts_all Q s now keeps jobs later (may_start_later jobs placed later may) all)

-- ---- what a pass plans may start

-- of jobs whose numbers rise, one that waits is the only one with its number
pub only-waits : (id : ℕ) (jobs : List JobRecord) → HaveRisingIds jobs
    → Any (λ (job : JobRecord). (job.id ≡ id) × (is_pending job.state ≡ true)) jobs → Waits jobs id
only-waits id [] rising any =
    absurd (any_none (λ (job : JobRecord). (job.id ≡ id) × (is_pending job.state ≡ true)) any)
only-waits id (job ∷ jobs) rising any =
    let Here = λ (job : JobRecord). (job.id ≡ id) × (is_pending job.state ≡ true) in
    let Wait = λ (job : JobRecord). has_id id job ≡ true → is_pending job.state ≡ true in
    let later : HaveRisingIds jobs = λ i j d before within.
    rising (suc i) (suc j) d (omega (arith, before)) (omega (arith, within)) in
    elim (any_cases Here job jobs any) [
      | inl here ↦
          All-cons Wait job jobs (λ is. here.1)
          (λ k d below is. absurd (omega (
            arith,
            rising 0 (suc k) d (omega arith) (omega (arith, below)),
            here.0,
            eqb-true (get_or jobs k d).id id is,
          )))
      | inr behind ↦
          All-cons Wait job jobs (λ is. absurd (never-first id job jobs rising behind (eqb-true job.id id is)))
          (only-waits id jobs later behind)
    ]
  where
    never-first : (id : ℕ) (job : JobRecord) (jobs : List JobRecord) → HaveRisingIds (job ∷ jobs)
        → Any (λ (job : JobRecord). (job.id ≡ id) × (is_pending job.state ≡ true)) jobs → job.id ≡ id → ⊥
    never-first id job jobs rising (k, one, below, is, has) same =
        omega (
          arith,
          rising 0 (suc k) one (omega arith) (omega (arith, below)),
          ap (λ (one : JobRecord). one.id) is,
          has.0,
          same,
        )

-- what the crates below promise of plans
pub record Plans : Type 0 where
  pub apart : (base : BaseView) (ranked : List PlanJob) (now : ℕ)
      → AllPairs (λ (one other : PlanJob). one.id ≢ other.id) ranked
      → AllPairs (λ (one other : Placed). one.id ≢ other.id) (plan_of base ranked now)
  pub candidates : (s : State) (now : ℕ) → All (λ (placed : Placed).
      Any (λ (job : JobRecord). (job.id ≡ placed.id) × (is_candidate (ready s now) now job ≡ true)) (ready s now).jobs)
      (placements s now)
  pub order : OrderKeepsApart JobRecord

pub plans_start : Plans → (s : State) (now : ℕ) → HaveRisingIds (ready s now).jobs
    → MayStart (ready s now).jobs (placements s now)
unfolding planned
plans_start plans s now rising = record {
  wait = λ k d below. only-waits (get_or (placements s now) k d).id (ready s now).jobs rising
      (any_weaker (λ (job : JobRecord). (job.id ≡ (get_or (placements s now) k d).id)
      × (is_candidate (ready s now) now job ≡ true))
      (λ (job : JobRecord). (job.id ≡ (get_or (placements s now) k d).id) × (is_pending job.state ≡ true))
      (ready s now).jobs
      (λ job has. (has.0, (and_parts (is_pending job.state) (is_none (hindrance (ready s now) now job)) has.1).0))
      (plans.candidates s now k d below));
  apart = plans.apart (base_of (ready s now) now) (ranked (ready s now) now) now
      (ranked-apart plans.order (ready s now) now rising);
}
