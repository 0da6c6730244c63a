-- How two lists are passed at once, each from a place on: a job that stands in both is planned in both, one that is in the
-- old list alone is left out, and one that is in the new list alone is planned anew. Of the proof alone.
use Rattle.std.specs.Prelude.{◌≡◌, ◌⊎◌, ℕ, ◌≤◌, ◌<◌, Bool, true, false, List, [], length, take, slice_index_or, Option, Some, None}
use Rattle.backfill_planner.specs.declared.job.PlanJob.{PlanJob}
use Rattle.backfill_planner.specs.Bases.{BaseView}
use Rattle.resource_profile.specs.Profiles.{ProfileView}
use Rattle.backfill_planner.specs.declared.Share.{Share}
use Rattle.backfill_planner.specs.declared.Placed.{Placed}
use Rattle.backfill_planner.specs.Plans.{PlannedView, PlanningView, holds_before}
use Rattle.plan_keeper.specs.declared.both_plans.BothPlans.{BothPlans}
use Rattle.plan_keeper.specs.declared.both_plans.Passed.{Passed}
use Rattle.plan_keeper.specs.Steady.{IsNamedOnce, AreSteady}
use Rattle.plan_keeper.specs.Marks.{times, IsGone, IsPast, IsUnsettled}
use Rattle.plan_keeper.specs.Kept.{AreKeptTo}

-- no job of the old list from this place on has the id of this one, where it is named once
abbrev pub IsNew : List PlanJob → ℕ → ℕ → Type 0
IsNew old before id =
    (other : ℕ) (d : PlanJob) → before ≤ other → other < length old → (slice_index_or old other d).id ≡ id
    → ¬ IsNamedOnce old other

-- the jobs before the two places are none of those behind
pub record ArePassed (now : ℕ) (old ranked : List PlanJob) (before place : ℕ) : Type 0 where
  pub few : before ≤ length old
  pub few_new : place ≤ length ranked
  pub fresh : (one : ℕ) (d : PlanJob) → one < place → IsNew old before (slice_index_or ranked one d).id
  pub left : (one : ℕ) → one < before → IsPast now old ranked place one

-- Of a marked node, as many of the jobs before the two places may have it in both lists; of another one, one of them that
-- may isn't steady, or is gone.
pub record AreLevel (old : PlannedView) (base : BaseView) (ranked : List PlanJob) (now before place : ℕ)
    (level : List Bool) : Type 0 where
  pub long : length level ≡ length base.rooms
  pub alike : (node : ℕ) → node < length base.rooms → slice_index_or level node false ≡ true
      → times node (take before old.ranked) ≡ times node (take place ranked)
  pub changed : (steady : ℕ → Bool) → AreSteady old base ranked now steady → (node : ℕ) → node < length base.rooms
      → slice_index_or level node false ≡ false
      → IsUnsettled ranked steady place node ⊎ IsGone now old.ranked ranked before node

-- both lists are passed up to a place, and this is kept in mind
pub record HasPassed (old : PlannedView) (planning : PlanningView) (before : ℕ) (same no_freer : List ℕ)
    (level : List Bool) : Type 0 where
  pub passed : ArePassed planning.moment old.ranked planning.ranked before planning.done
  pub kept : AreKeptTo old planning before same no_freer
  pub levels : AreLevel old planning.base planning.ranked planning.moment before planning.done level

-- so it is of what is passed
pub record IsPassed (old : PlannedView) (passed : Passed) : Type 0 where
  pub index : passed.index ≡ passed.planning.done
  pub has : HasPassed old passed.planning passed.before
      passed.kept.same.seconds.items passed.kept.no_freer.seconds.items passed.level.nodes.items

-- an old plan made again up to a place
abbrev pub made_to : PlannedView → ℕ → PlanningView
made_to old before = record { base = old.base; ranked = old.ranked; moment = old.moment; done = before }

-- and what the old plan held is what it holds that is made again up to there
pub record ArePassing (old : PlannedView) (plans : BothPlans) : Type 0 where
  pub then : plans.then ≡ made_to old plans.passed.before
  pub passed : IsPassed old plans.passed

-- what is held so far of a plan in the making
abbrev pub held_by : PlanningView → ProfileView
held_by planning = record {
  rooms = planning.base.rooms;
  holds = holds_before planning.base planning.ranked planning.moment planning.done;
  spare = 0;
}

-- the parts of a placement, none where there is none
abbrev pub parts_of : Option Placed → List Share
parts_of None = []
parts_of (Some placed) = placed.parts
