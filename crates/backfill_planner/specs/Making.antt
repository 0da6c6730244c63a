-- How a plan in the making, and a plan, are kept. Of the proof alone: no public call speaks of it.
use Rattle.std.specs.Prelude.{◌≡◌, ℕ, ◌≤◌, List, length, take, All}
use Rattle.std.specs.List.Sorted.{IsPermutation}
use Rattle.resource_profile.specs.Profiles.{ProfileView, AreWithin}
use Rattle.backfill_planner.specs.declared.Placed.{Placed}
use Rattle.backfill_planner.specs.declared.job.PlanJob.{PlanJob}
use Rattle.backfill_planner.specs.declared.seen.Seen.{Seen}
use Rattle.backfill_planner.specs.Bases.{BaseView}
use Rattle.backfill_planner.specs.Placements.{IsOnRooms, IsPlannable}
use Rattle.backfill_planner.specs.Plans.{AreCounted, holds_before, plan_of}
use Rattle.backfill_planner.specs.Searches.{IsSeen}
use Rattle.plain_data.specs.declared.seconds.TheConstants.{LAST_START}

-- the first jobs are planned, and what they hold is in the profile
pub record IsPlanning (base : BaseView) (ranked : List PlanJob) (now done : ℕ) (made : List Placed)
    (counts : List ℕ) (profile : ProfileView) (searches : List Seen) : Type 0 where
  pub within : AreWithin base.rooms base.holds
  pub low : base.horizon ≤ LAST_START
  pub nodes : All (IsOnRooms base.rooms) ranked
  pub jobs : All IsPlannable (take done ranked)
  pub few : done ≤ length ranked
  pub placements : made ≡ plan_of base (take done ranked) now
  pub counted : AreCounted base ranked now done counts
  pub rooms : profile.rooms ≡ base.rooms
  pub held : IsPermutation (holds_before base ranked now done) profile.holds
  pub seen : All (IsSeen base.rooms profile.holds ranked now) searches

-- a plan's parts agree
pub record IsPlanned (base : BaseView) (ranked : List PlanJob) (now : ℕ) (made : List Placed) (counts : List ℕ)
    : Type 0 where
  pub nodes : All (IsOnRooms base.rooms) ranked
  pub placements : made ≡ plan_of base ranked now
  pub counted : AreCounted base ranked now (length ranked) counts
