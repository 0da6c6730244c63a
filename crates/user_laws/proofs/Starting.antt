-- The starts of a pass: each is of a job that waits.
use Rattle.std.proofs.Common.{ℕ, ◌≡◌, ◌∙◌, true, ◌&&◌, ◌≤◌, List, [], ◌∷◌, map, All, Any, refl, subst, inl, inr, ◌⊎◌, nat_eq}
use Rattle.std.proofs.lemmas.Bool.{cond_both}
use Rattle.std.proofs.lemmas.List.Elements.{All-cons, All-head, All-nil, All-tail, All-weaker}
use Rattle.backfill_planner.specs.declared.Placed.{Placed}
use Rattle.job_table.specs.declared.record.JobRecord.{JobRecord}
use Rattle.job_table.specs.declared.record.Part.{Part}
use Rattle.job_table.specs.declared.change.Change.TheVariants.{Start}
use Rattle.job_table.specs.Changes.{changed}
use Rattle.job_table.specs.JobStates.{is_pending}
use Rattle.job_table.specs.Table.{HaveRisingIds, has_id}
use Rattle.ctl_state.specs.Events.{started_as}
use Rattle.ctl_state.specs.Soundness.{IsSound}
use Rattle.ctl_state.specs.State.{State, last_moment}
use Rattle.ctl_node_side.specs.Silence.{silenced}
use Rattle.ctl_pass.specs.Readiness.{jobs_left, placements, ready}
use Rattle.ctl_pass.specs.Starting.{Started, begun, may_start, start_of, started}
use Rattle.ctl_node_side.proofs.Silent.{silenced_raised}
use Rattle.daemon_world.proofs.Lists.{any_here, any_there, any_weaker, any_of_all}
use Rattle.daemon_world.proofs.Starting.{Waits, MayStart, may_start_later, may_start_on, Plans, plans_start}

-- ---- all starts

-- a job stays as it is, or it waited, and has started
pub record IsStart (job after : JobRecord) : Type 0 where
  pub id : after.id ≡ job.id
  pub array : after.array ≡ job.array
  pub index : after.index ≡ job.index
  pub stays : (after ≡ job) ⊎ (is_pending job.state ≡ true)

stays-so : (job : JobRecord) → IsStart job job
stays-so job = record { id = refl; array = refl; index = refl; stays = inl refl }

starts-on : (job middle after : JobRecord) → IsStart job middle → IsStart middle after → IsStart job after
starts-on job middle after one two = record {
  id = two.id ∙ one.id;
  array = two.array ∙ one.array;
  index = two.index ∙ one.index;
  stays = elim one.stays [
    | inl same ↦ elim two.stays [
      | inl again ↦ inl (again ∙ same)
      | inr waits ↦ inr (subst (λ (job : JobRecord). is_pending job.state ≡ true) same waits)
    ]
    | inr waits ↦ inr waits
  ];
}

-- each job is one that it was before, which has started where it waited
pub starts_was : (s : State) (now : ℕ) (jobs : List JobRecord) (plan : List Placed) → MayStart jobs plan
    → All (λ (after : JobRecord). Any (λ (job : JobRecord). IsStart job after) jobs) (started s now jobs plan).jobs
unfolding started
starts_was s now jobs [] may = itself jobs
  where
    itself : (jobs : List JobRecord) → All (λ (after : JobRecord). Any (λ (job : JobRecord). IsStart job after) jobs) jobs
    itself [] = All-nil (λ (after : JobRecord). Any (λ (job : JobRecord). IsStart job after) [])
    itself (job ∷ jobs) =
        let Was = λ (after : JobRecord). Any (λ (one : JobRecord). IsStart one after) (job ∷ jobs) in
        All-cons Was job jobs (any_here (λ (one : JobRecord). IsStart one job) job jobs (stays-so job))
        (All-weaker (λ (after : JobRecord). Any (λ (one : JobRecord). IsStart one after) jobs) Was
        (λ after any. any_there (λ (one : JobRecord). IsStart one after) job jobs any) jobs (itself jobs))
starts_was s now jobs (placed ∷ later) may =
    let start = start_of s.nodes jobs placed in
    let waits = All-head (λ (placed : Placed). Waits jobs placed.id) placed later may.wait in
    let Was = λ (jobs : List JobRecord) (after : JobRecord). Any (λ (job : JobRecord). IsStart job after) jobs in
    cond_both (nat_eq placed.start now && may_start s jobs placed.id) _ _
    (λ (after : Started). All (Was jobs) after.jobs)
    (λ starts. let rest = starts_was s now (begun now jobs start) later (may_start_on now jobs start placed later refl may) in
    All-weaker (Was (begun now jobs start)) (Was jobs)
    (λ after any. any_of_all (Was jobs) (λ (middle : JobRecord). IsStart middle after) (Was jobs after)
    (begun now jobs start)
    (λ middle was then. any_weaker (λ (job : JobRecord). IsStart job middle) (λ (job : JobRecord). IsStart job after) jobs
    (λ job one. starts-on job middle after one then) was)
    (one-start now placed.id start.parts start.nodes jobs waits) any)
    (started s now (begun now jobs start) later).jobs rest)
    (λ stays. starts_was s now jobs later (may_start_later jobs placed later may))
  where
    one-start : (now id : ℕ) (parts : List Part) (names : List (List ℕ)) (jobs : List JobRecord) → Waits jobs id
        → All (λ (after : JobRecord). Any (λ (job : JobRecord). IsStart job after) jobs)
        (map (started_as now id parts names) jobs)
    one-start now id parts names [] waits = All-nil (λ (after : JobRecord). Any (λ (job : JobRecord). IsStart job after) [])
    one-start now id parts names (job ∷ jobs) waits =
        let Wait = λ (job : JobRecord). has_id id job ≡ true → is_pending job.state ≡ true in
        let Was = λ (after : JobRecord). Any (λ (one : JobRecord). IsStart one after) (job ∷ jobs) in
        let first : IsStart job (started_as now id parts names job) =
        cond_both (has_id id job) (changed (Start now parts names) job) job (IsStart job)
        (λ is. record { id = refl; array = refl; index = refl; stays = inr (All-head Wait job jobs waits is) })
        (λ not. stays-so job) in
        All-cons Was (started_as now id parts names job) (map (started_as now id parts names) jobs)
        (any_here (λ (one : JobRecord). IsStart one (started_as now id parts names job)) job jobs first)
        (All-weaker (λ (after : JobRecord). Any (λ (one : JobRecord). IsStart one after) jobs) Was
        (λ after any. any_there (λ (one : JobRecord). IsStart one after) job jobs any)
        (map (started_as now id parts names) jobs)
        (one-start now id parts names jobs (All-tail Wait job jobs waits)))

-- ---- what a pass plans may start

-- what the crates below promise of passes
pub record Passes : Type 0 where
  pub plans : Plans
  pub silence : (s : State) (now : ℕ) → IsSound s → s.moment ≤ now → now ≤ last_moment → IsSound (silenced s now)
  pub planned : (s : State) (now : ℕ) → IsSound s → s.moment ≤ now → now ≤ last_moment
      → IsSound (record (ready s now) { plan = []; moment = now })

-- the numbers of the jobs that a pass plans rise
pub ready_rising : Passes → (s : State) (now : ℕ) → IsSound s → s.moment ≤ now → now ≤ last_moment
    → HaveRisingIds (jobs_left (silenced s now) now)
ready_rising passes s now sound raised in_time =
    (passes.planned (silenced s now) now (passes.silence s now sound raised in_time) (silenced_raised s now raised)
    in_time).rising

-- what it plans may start
pub pass_may : Passes → (s : State) (now : ℕ) → IsSound s → s.moment ≤ now → now ≤ last_moment
    → MayStart (jobs_left (silenced s now) now) (placements (silenced s now) now)
pass_may passes s now sound raised in_time =
    plans_start passes.plans (silenced s now) now (ready_rising passes s now sound raised in_time)
