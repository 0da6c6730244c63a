-- What replanning keeps in mind of the nodes and of the old list. Of the proof alone: no public call speaks of it.
use Rattle.std.specs.Prelude.{◌≡◌, ◌≢◌, ◌⊎◌, ℕ, ◌+◌, ◌-◌, ◌≤◌, ◌<◌, Bool, true, false, ◌&&◌, ◌||◌, not, nat_eq, nat_lt, List, length, take, count_by, sum_by, slice_index_or, All, Option, Some, None}
use Rattle.backfill_planner.specs.declared.job.PlanJob.{PlanJob}
use Rattle.backfill_planner.specs.Bases.{BaseView}
use Rattle.backfill_planner.specs.Plans.{PlannedView, holds_before}
use Rattle.backfill_planner.specs.Staying.{StaysFrom}
use Rattle.plan_keeper.specs.Steady.{may_have_node, IsNamedOnce, IsSameFrom, AreSteady}

-- how often the node is among the job's, and among those of some jobs
abbrev pub on : ℕ → PlanJob → ℕ
on node job = count_by (nat_eq node) job.nodes

abbrev pub times : ℕ → List PlanJob → ℕ
times node jobs = sum_by (on node) jobs

-- how often each node is among those of the jobs before a place of the list
abbrev pub times_before : List PlanJob → ℕ → (ℕ → ℕ)
times_before jobs place = λ node. times node (take place jobs)

-- how often a job's nodes are among those of the jobs before a place of the list
abbrev pub depth : List PlanJob → ℕ → PlanJob → ℕ
depth jobs place job = sum_by (times_before jobs place) job.nodes

-- the number is the place of one of the first jobs that has this id; or none of them has it
abbrev pub FindsId : List PlanJob → ℕ → ℕ → Option ℕ → Type 0
FindsId jobs first id None = (place : ℕ) (d : PlanJob) → place < first → ¬ ((slice_index_or jobs place d).id ≡ id)
FindsId jobs first id (Some place) = (place < first) × ((d : PlanJob) → (slice_index_or jobs place d).id ≡ id)

-- each job of the list is found by its id, with how often its nodes are among those of the jobs before it
pub record IsListed (jobs : List PlanJob) (places : ℕ → Option ℕ) (depths : List ℕ) : Type 0 where
  pub finds : (id : ℕ) → FindsId jobs (length jobs) id (places id)
  pub long : length depths ≡ length jobs
  pub deep : (place d : ℕ) (job : PlanJob) → place < length jobs → slice_index_or jobs place job ≡ job
      → slice_index_or depths place d ≡ depth jobs place job

-- Of a node: the jobs so far that may have it are the first in the old list that may, and so as much of it is free now
-- as was then.
pub record IsMatched (old : PlannedView) (base : BaseView) (ranked : List PlanJob) (now place : ℕ) (met : ℕ → Bool)
    (node : ℕ) : Type 0 where
  pub passed : (before : ℕ) (d : PlanJob) → before < length old.ranked
      → 1 ≤ on node (slice_index_or old.ranked before d)
      → times node (take before old.ranked) < times node (take place ranked)
      → met before ≡ true
  pub stays : (before : ℕ) → before ≤ length old.ranked
      → times node (take before old.ranked) ≡ times node (take place ranked)
      → StaysFrom old.base.rooms (holds_before old.base old.ranked old.moment before)
      base.rooms (holds_before base ranked now place) now node

-- the job at a place of the old list is none from this place of the new one on that both name once
abbrev pub IsPast : ℕ → List PlanJob → List PlanJob → ℕ → ℕ → Type 0
IsPast now old ranked place before =
    (other : ℕ) (d : PlanJob) → place ≤ other → other < length ranked
    → IsSameFrom now (slice_index_or old before d) (slice_index_or ranked other d)
    → IsNamedOnce ranked other → ¬ IsNamedOnce old before

-- one of the jobs before this place may have the node and isn't steady
pub record IsUnsettled (ranked : List PlanJob) (steady : ℕ → Bool) (place node : ℕ) : Type 0 where
  pub at : ℕ
  pub above : at < place
  pub has : (d : PlanJob) → may_have_node node (slice_index_or ranked at d) ≡ true
  pub other : steady at ≡ false

-- one of the jobs before this place of the old list may have the node, and is none of the new list that both name once
pub record IsGone (now : ℕ) (old ranked : List PlanJob) (before node : ℕ) : Type 0 where
  pub at : ℕ
  pub above : at < before
  pub there : at < length old
  pub has : (d : PlanJob) → may_have_node node (slice_index_or old at d) ≡ true
  pub gone : IsPast now old ranked 0 at

-- so it is of one behind which all that stand above it are met
pub record IsGoneMet (now : ℕ) (old ranked : List PlanJob) (met : ℕ → Bool) (node : ℕ) : Type 0 where
  pub first : ℕ
  pub gone : IsGone now old ranked first node
  pub all_met : (before : ℕ) → before < first → met before ≡ true

-- what is marked of nodes, and which jobs of the old list are met, once the jobs before a place of the new one are planned
pub record AreMarks (old : PlannedView) (base : BaseView) (ranked : List PlanJob) (now place : ℕ) (same : List Bool)
    (met : ℕ → Bool) : Type 0 where
  pub long : length same ≡ length base.rooms
  pub known : (before : ℕ) → before < length old.ranked → met before ≡ true
      → IsPast now old.ranked ranked place before
  pub matched : (node : ℕ) → node < length base.rooms → slice_index_or same node false ≡ true
      → IsMatched old base ranked now place met node
  pub changed : (steady : ℕ → Bool) → AreSteady old base ranked now steady → (node : ℕ) → node < length base.rooms
      → slice_index_or same node false ≡ false → node < length old.base.rooms
      → StaysFrom old.base.rooms old.base.holds base.rooms base.holds now node
      → IsUnsettled ranked steady place node ⊎ IsGoneMet now old.ranked ranked met node

-- From now on the job is the one at a place of the old list, which wasn't met before, and on none of its nodes has
-- anything changed by now; as many jobs that may have them stand above it as did.
pub record Fits (old : List PlanJob) (same : List Bool) (counts : ℕ → ℕ) (met : ℕ → Bool) (now : ℕ) (job : PlanJob)
    (before : ℕ) : Type 0 where
  pub there : before < length old
  pub is : (d : PlanJob) → IsSameFrom now (slice_index_or old before d) job
  pub fresh : met before ≡ false
  pub unchanged : All (λ node. slice_index_or same node false ≡ true) job.nodes
  pub level : sum_by counts job.nodes ≡ depth old before job

-- one job more of the old list is met
pub record Meets (met : ℕ → Bool) (before : ℕ) (new : ℕ → Bool) : Type 0 where
  pub here : new before ≡ true
  pub others : (other : ℕ) → other ≢ before → new other ≡ met other

-- the first jobs of both lists are, one by one, the same from now on
pub record AreAlike (now : ℕ) (old ranked : List PlanJob) (first : ℕ) : Type 0 where
  pub few : first ≤ length old
  pub few_new : first ≤ length ranked
  pub each : (place : ℕ) (d : PlanJob) → place < first
      → IsSameFrom now (slice_index_or old place d) (slice_index_or ranked place d)

-- the first jobs of the old list are met, and of those behind them the marked ones
abbrev pub met_from : ℕ → List Bool → (ℕ → Bool)
met_from first met = λ before. nat_lt before first || slice_index_or met (before - first) false

-- What is counted behind the first jobs of both lists, once the jobs before a place of the new one are planned: of each
-- node that is marked as the same as many of these jobs may have it in both.
pub record AreCounts (old ranked : List PlanJob) (first place nodes : ℕ) (same : List Bool) (counts : List ℕ)
    (met : List Bool) : Type 0 where
  pub few : first ≤ length old
  pub long : length counts ≡ nodes
  pub met_long : first + length met ≡ length old
  -- how many the first ones of the new list are
  pub first_new : ℕ
  pub level : (node : ℕ) → node < nodes → slice_index_or same node false ≡ true
      → times node (take first_new ranked) ≡ times node (take first old)
  pub counted : (node d : ℕ) → node < nodes
      → slice_index_or counts node d + times node (take first_new ranked) ≡ times node (take place ranked)

-- the counts with a job's nodes added
pub record Counts (counts : List ℕ) (job : PlanJob) (new : List ℕ) : Type 0 where
  pub long : length new ≡ length counts
  pub each : (node d : ℕ) → node < length counts
      → slice_index_or new node d ≡ slice_index_or counts node d + on node job

-- which nodes are marked as the same, with those of a job taken out
pub record Without (same : List Bool) (job : PlanJob) (new : List Bool) : Type 0 where
  pub long : length new ≡ length same
  pub each : (node : ℕ) → node < length same
      → slice_index_or new node false ≡ (slice_index_or same node false && not (may_have_node node job))
