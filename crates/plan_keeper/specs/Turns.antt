-- What is found of the next job, and how many steps it costs. Of the proof alone.
use Rattle.std.specs.Prelude.{◌≡◌, ℕ, ◌<◌, Bool, false, if◌then◌else◌, List, length, slice_index_or, All, Option, Some, None}
use Rattle.resource_profile.specs.Counts.{IsTickedUpTo}
use Rattle.backfill_planner.specs.declared.Placed.{Placed}
use Rattle.backfill_planner.specs.declared.job.PlanJob.{PlanJob}
use Rattle.backfill_planner.specs.Bases.{BaseView}
use Rattle.backfill_planner.specs.Plans.{PlannedView, PlanningView, holds_before, placement_of}
use Rattle.backfill_planner.specs.Staying.{EndsInTime, StaysFrom}
use Rattle.plan_keeper.specs.Steady.{CanStand, IsSameFrom, AreSteady, others}
use Rattle.plan_keeper.specs.Marks.{times_before, Fits}

-- the placement is the next job's
abbrev pub IsNext : PlanningView → Option Placed → Type 0
IsNext planning placed =
    (d : PlanJob) → placed
    ≡ placement_of planning.base planning.ranked planning.moment planning.done
    (slice_index_or planning.ranked planning.done d)

-- from now on the next job is that at a place of the old list, and nothing has changed on its nodes by now
pub record StandsAgain (old : PlannedView) (planning : PlanningView) (before : ℕ) : Type 0 where
  pub job : PlanJob
  pub is : (d : PlanJob) → slice_index_or planning.ranked planning.done d ≡ job
  pub there : before < length old.ranked
  pub was : (d : PlanJob) → IsSameFrom planning.moment (slice_index_or old.ranked before d) job
  pub in_time : EndsInTime job
  pub nodes : All (StaysFrom old.base.rooms (holds_before old.base old.ranked old.moment before)
      planning.base.rooms (holds_before planning.base planning.ranked planning.moment planning.done)
      planning.moment) job.nodes

-- it is placed as it was, or anew, and then its old start couldn't stand
abbrev pub IsFoundAgain : PlannedView → PlanningView → ℕ → Option ℕ → Type 0
IsFoundAgain old planning before None =
    (d : PlanJob) → ¬ CanStand planning.moment old.base.horizon planning.base.horizon
    (placement_of old.base old.ranked old.moment before (slice_index_or old.ranked before d))
IsFoundAgain old planning before (Some again) =
    (again ≡ before) × ((d : PlanJob)
    → placement_of planning.base planning.ranked planning.moment planning.done
    (slice_index_or planning.ranked planning.done d)
    ≡ placement_of old.base old.ranked old.moment before (slice_index_or old.ranked before d))

-- it costs a step at most, and only where its old start can't stand
pub record IsSteppedAgain (old : PlannedView) (planning : PlanningView) (before steps new : ℕ) : Type 0 where
  pub most : IsTickedUpTo 1 steps new
  pub free : (d : PlanJob) → CanStand planning.moment old.base.horizon planning.base.horizon
      (placement_of old.base old.ranked old.moment before (slice_index_or old.ranked before d))
      → IsTickedUpTo 0 steps new

-- a job that fits at a place of the old list has its placement of then
pub record IsAgain (old : PlannedView) (planning : PlanningView) (same : List Bool) (met : ℕ → Bool) (before : ℕ)
    (job : PlanJob) : Type 0 where
  pub fits : Fits old.ranked same (times_before planning.ranked planning.done) met planning.moment job before
  pub placed : (d : PlanJob) → placement_of planning.base planning.ranked planning.moment planning.done job
      ≡ placement_of old.base old.ranked old.moment before (slice_index_or old.ranked before d)

-- the next job is placed as the one at a place of the old list, which it is; or anew, and then it isn't steady
abbrev pub IsFound : PlannedView → PlanningView → List Bool → (ℕ → Bool) → Option ℕ → Type 0
IsFound old planning same met None =
    (steady : ℕ → Bool) → AreSteady old planning.base planning.ranked planning.moment steady
    → steady planning.done ≡ false
IsFound old planning same met (Some before) =
    (d : PlanJob) → IsAgain old planning same met before (slice_index_or planning.ranked planning.done d)

-- it costs a step at most, and none where it is steady
pub record IsStepped (old : PlannedView) (planning : PlanningView) (steps new : ℕ) : Type 0 where
  pub most : IsTickedUpTo 1 steps new
  pub steady : (steady : ℕ → Bool) → AreSteady old planning.base planning.ranked planning.moment steady
      → IsTickedUpTo (if steady planning.done then 0 else 1) steps new

-- so many jobs cost a step at most each, and none where they are steady
pub record HasStepped (old : PlannedView) (base : BaseView) (ranked : List PlanJob) (now index steps new : ℕ)
    : Type 0 where
  pub most : IsTickedUpTo index steps new
  pub steady : (steady : ℕ → Bool) → AreSteady old base ranked now steady → IsTickedUpTo (others steady index) steps new
