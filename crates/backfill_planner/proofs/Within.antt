-- What the placed jobs of a plan hold, beside what the base holds, stays within the rooms.
use Rattle.std.proofs.Common.{◌≢◌, ℕ, ◌≤◌, List, [], ◌∷◌, ◌++◌, All, append_assoc, Option, Some, None}
use Rattle.std.specs.Prelude.{AllPairs, IfSome}
use Rattle.std.specs.List.Sorted.{IsPermutation}
use Rattle.std.proofs.lemmas.List.{append-nil}
use Rattle.std.proofs.lemmas.List.Elements.{All-head, All-tail}
use Rattle.std.proofs.lemmas.List.Sorted.{IsPermutation-sym, IsPermutation-to_front}
use Rattle.resource_profile.specs.declared.NodeRoom.{NodeRoom}
use Rattle.resource_profile.specs.declared.Hold.{Hold}
use Rattle.resource_profile.specs.Profiles.{AreWithin, HasFree}
use Rattle.backfill_planner.specs.LowerLaws.{LowerLaws}
use Rattle.backfill_planner.specs.declared.Placed.{Placed}
use Rattle.backfill_planner.specs.declared.job.PlanJob.{PlanJob}
use Rattle.backfill_planner.specs.Bases.{BaseView}
use Rattle.backfill_planner.specs.Plans.{placed_of, holds_of, plan_holds_beside, plan_holds_of}
use Rattle.backfill_planner.specs.Placements.{IsPlannable, IsOnRooms}
use Rattle.backfill_planner.proofs.Beside.{free-beside}
use Rattle.backfill_planner.proofs.Holding.{HoldsFree}
use Rattle.backfill_planner.proofs.LeastSecond.{placed-is}
use Rattle.backfill_planner.proofs.Parts.{if_placed, placed-holds}
use Rattle.list_lemmas.proofs.Pairs.{pairs-head, pairs-tail}
use Rattle.plain_data.specs.declared.seconds.TheConstants.{LAST_START}

-- what is free on nodes that differ can be held
holds-within : LowerLaws → (rooms : List NodeRoom) (holds held : List Hold) → AreWithin rooms holds → All (HasFree rooms holds) held → AllPairs (λ (one other : Hold). one.node ≢ other.node) held → AreWithin rooms (holds ++ held)
holds-within laws rooms holds [] within free apart = rw (append-nil holds) within
holds-within laws rooms holds (hold ∷ later) within free apart =
    let R : Hold → Hold → Type 0 = λ one other. one.node ≢ other.node in
    let here = All-head (HasFree rooms holds) hold later free in
    let rest = All-tail (HasFree rooms holds) hold later free in
    let differ = pairs-head R hold later apart in
    let added : IsPermutation (hold ∷ holds) (holds ++ hold ∷ []) = IsPermutation-sym (holds ++ hold ∷ []) (hold ∷ holds) (IsPermutation-to_front holds hold) in
    rw (← append_assoc holds (hold ∷ []) later)
    (holds-within laws rooms (holds ++ hold ∷ []) later (laws.free rooms holds hold within here)
    (λ k d below. free-beside rooms holds (holds ++ hold ∷ []) hold _ (rest k d below) (differ k d below) added)
    (pairs-tail R hold later apart))

placed-within : LowerLaws → (rooms : List NodeRoom) (holds : List Hold) (job : PlanJob) (placed : Option Placed) → AreWithin rooms holds → IfSome placed (λ one. HoldsFree rooms holds (holds_of job (Some one))) → AreWithin rooms (holds ++ holds_of job placed)
placed-within laws rooms holds job None within is = rw (append-nil holds) within
placed-within laws rooms holds job (Some placed) within is = holds-within laws rooms holds (holds_of job (Some placed)) within is.free is.apart

plan_beside-within : LowerLaws → (base : BaseView) (now : ℕ) (holds : List Hold) (ranked : List PlanJob) → AreWithin base.rooms holds → base.horizon ≤ LAST_START → All (IsOnRooms base.rooms) ranked → All IsPlannable ranked
    → AreWithin base.rooms (holds ++ plan_holds_beside base now holds ranked)
unfolding plan_holds_beside
plan_beside-within laws base now holds [] within low nodes jobs = rw (append-nil holds) within
plan_beside-within laws base now holds (job ∷ later) within low nodes jobs =
    let placed = placed_of base.rooms holds job now base.horizon in
    let held = holds_of job placed in
    let free = if_placed (λ one. HoldsFree base.rooms holds (holds_of job (Some one))) placed
    (λ one is. placed-holds base.rooms holds job now base.horizon one (All-head (IsOnRooms base.rooms) job later nodes) (All-head IsPlannable job later jobs) low (placed-is laws base.rooms holds job now base.horizon one is)) in
    rw (← append_assoc holds held (plan_holds_beside base now (holds ++ held) later))
    (plan_beside-within laws base now (holds ++ held) later (placed-within laws base.rooms holds job placed within free) low (All-tail (IsOnRooms base.rooms) job later nodes) (All-tail IsPlannable job later jobs))

pub plan-within : LowerLaws → (base : BaseView) (ranked : List PlanJob) (now : ℕ) → AreWithin base.rooms base.holds → base.horizon ≤ LAST_START → All (IsOnRooms base.rooms) ranked → All IsPlannable ranked
    → AreWithin base.rooms (base.holds ++ plan_holds_of base ranked now)
unfolding plan_holds_of
plan-within laws base ranked now within low nodes jobs = plan_beside-within laws base now base.holds ranked within low nodes jobs
