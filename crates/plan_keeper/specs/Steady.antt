-- Which jobs of a new list stand as they stood in an old plan.
use Rattle.std.specs.Prelude.{◌≡◌, ℕ, ◌+◌, ◌≤◌, ◌<◌, zero, suc, Bool, true, ◌&&◌, nat_eq, nat_lt, if◌then◌else◌, List, [], length, take, map, filter, slice_index_or, Option, Some, None}
use Rattle.std.specs.List.{list_any}
use Rattle.plain_data.specs.Rows.{has_id}
use Rattle.backfill_planner.specs.declared.Placed.{Placed}
use Rattle.backfill_planner.specs.declared.job.Barred.{Barred}
use Rattle.backfill_planner.specs.declared.job.PlanJob.{PlanJob}
use Rattle.backfill_planner.specs.Bases.{BaseView}
use Rattle.backfill_planner.specs.Plans.{PlannedView, placement_of}
use Rattle.backfill_planner.specs.Staying.{StaysFrom}

-- the job may have the node
abbrev pub may_have_node : ℕ → PlanJob → Bool
may_have_node node job = list_any (nat_eq node) job.nodes

-- the time ends later than now, and is one of these nodes'
abbrev pub is_ahead : ℕ → List ℕ → Barred → Bool
is_ahead now nodes time = nat_lt now time.until && list_any (has_id time.nodes) nodes

-- the times that end later than now at which the job may not have one of its nodes
abbrev pub times_ahead : ℕ → PlanJob → List Barred
times_ahead now job = filter (is_ahead now job.nodes) job.barred

-- all of the job but for the times at which it may not have nodes
abbrev pub but_for_times : PlanJob → PlanJob
but_for_times job = record job { barred = [] }

-- from now on the one job is the other: of their times only those count that end later than now on a node of theirs
pub record IsSameFrom (now : ℕ) (old new : PlanJob) : Type 0 where
  pub asks : but_for_times old ≡ but_for_times new
  pub times : times_ahead now old ≡ times_ahead now new

-- no other job of the list has the id of the one at this place
abbrev pub IsNamedOnce : List PlanJob → ℕ → Type 0
IsNamedOnce jobs place =
    (other : ℕ) (d : PlanJob) → other < length jobs
    → (slice_index_or jobs other d).id ≡ (slice_index_or jobs place d).id → other ≡ place

-- the jobs of a list that may have the node, in order
abbrev pub jobs_on : ℕ → List PlanJob → List PlanJob
jobs_on node jobs = map but_for_times (filter (may_have_node node) jobs)

-- an old start from now to the new horizon can stand; where there was none, none can come up to the old horizon
abbrev pub CanStand : ℕ → ℕ → ℕ → Option Placed → Type 0
CanStand now old_horizon horizon None = horizon ≤ old_horizon
CanStand now old_horizon horizon (Some placed) = (now ≤ placed.start) × (placed.start ≤ horizon)

-- Nothing has changed for the job at a place of the new list since the old plan: it stands in the old list, and its id
-- once in each; what may be held of its nodes from now on is the same; those ranked above it that may have one of its
-- nodes are, in order, those that were; and its start can stand.
pub record IsAsBefore (old : PlannedView) (base : BaseView) (ranked : List PlanJob) (now place : ℕ) : Type 0 where
  pub job : PlanJob
  pub is : (d : PlanJob) → slice_index_or ranked place d ≡ job
  -- its place in the old list
  pub before : ℕ
  pub there : before < length old.ranked
  pub was : (d : PlanJob) → IsSameFrom now (slice_index_or old.ranked before d) job
  pub once : IsNamedOnce ranked place
  pub once_before : IsNamedOnce old.ranked before
  pub nodes : (node : ℕ) → may_have_node node job ≡ true
      → StaysFrom old.base.rooms old.base.holds base.rooms base.holds now node
  pub above : (node : ℕ) → may_have_node node job ≡ true
      → jobs_on node (take place ranked) ≡ jobs_on node (take before old.ranked)
  pub start : (d : PlanJob) → CanStand now old.base.horizon base.horizon
      (placement_of old.base old.ranked old.moment before (slice_index_or old.ranked before d))

-- So it is for each of these places of the new list, and for each above it that may have a node of it.
pub record AreSteady (old : PlannedView) (base : BaseView) (ranked : List PlanJob) (now : ℕ) (steady : ℕ → Bool)
    : Type 0 where
  pub later : old.moment ≤ now
  pub each : (place : ℕ) → place < length ranked → steady place ≡ true → IsAsBefore old base ranked now place
  pub above : (place other node : ℕ) (d : PlanJob) → other < place → place < length ranked → steady place ≡ true
      → may_have_node node (slice_index_or ranked place d) ≡ true
      → may_have_node node (slice_index_or ranked other d) ≡ true → steady other ≡ true

-- how many of the first so many places aren't among these
unfoldable pub others : (ℕ → Bool) → ℕ → ℕ
others steady zero = 0
others steady (suc place) = others steady place + (if steady place then 0 else 1)
