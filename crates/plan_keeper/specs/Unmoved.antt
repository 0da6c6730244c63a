-- When each job of a new list keeps what it had in an older plan. Of the proof alone: no public call speaks of it.
use Rattle.std.specs.Prelude.{◌≡◌, ℕ, ◌+◌, ◌≤◌, ◌<◌, Bool, true, List, length, take, slice_index_or, All, Option, Some, None}
use Rattle.resource_profile.specs.declared.Hold.{Hold}
use Rattle.backfill_planner.specs.declared.Placed.{Placed}
use Rattle.backfill_planner.specs.declared.job.Barred.{Barred}
use Rattle.backfill_planner.specs.declared.job.PlanJob.{PlanJob}
use Rattle.backfill_planner.specs.Bases.{BaseView}
use Rattle.backfill_planner.specs.Plans.{PlannedView, AreCounted, holds_before, plan_of}
use Rattle.backfill_planner.specs.Staying.{IsOutside}

-- the same is held of the same rooms
pub record BeginAlike (old base : BaseView) : Type 0 where
  pub rooms : base.rooms ≡ old.rooms
  pub holds : base.holds ≡ old.holds

-- Where it had a start, this is one from now to the new horizon. Where it had none, nothing that is held and none of its
-- barred times ends at a second behind the old horizon, up to the new one.
abbrev pub CanStandStill : Option Placed → PlanJob → Bool → ℕ → ℕ → ℕ → Type 0
CanStandStill None job quiet now last hi = (quiet ≡ true) × All (λ (time : Barred). IsOutside last hi time.until) job.barred
CanStandStill (Some placed) job quiet now last hi = (now ≤ placed.start) × (placed.start ≤ hi)

-- The first jobs of the new list have the placements that the first of the old list had, and hold the same; where it is
-- quiet, none of this ends at a second behind the old horizon, up to the new one.
pub record AreStanding (old : PlannedView) (base : BaseView) (ranked : List PlanJob) (now before index : ℕ)
    (counts : List ℕ) (quiet : Bool) : Type 0 where
  pub few : index ≤ length ranked
  pub holds : holds_before base ranked now index ≡ holds_before old.base old.ranked old.moment before
  pub plan : plan_of base (take index ranked) now ≡ plan_of old.base (take before old.ranked) old.moment
  pub counted : AreCounted base ranked now index counts
  pub quiet_from : quiet ≡ true → now ≤ old.base.horizon
  pub quiet_holds : quiet ≡ true
      → All (λ (hold : Hold). IsOutside old.base.horizon base.horizon hold.until) (holds_before base ranked now index)

-- the new plan has the old one's placements, and this is how many of them its first jobs have
pub record HasSamePlan (old : PlannedView) (base : BaseView) (ranked : List PlanJob) (now : ℕ) (counts : List ℕ)
    : Type 0 where
  pub placements : plan_of base ranked now ≡ plan_of old.base old.ranked old.moment
  pub counted : AreCounted base ranked now (length ranked) counts
