-- What the planner promises, as the proofs here take it. Of the proof alone.
use Rattle.std.specs.Prelude.{◌≡◌, ℕ, ◌+◌, ◌≤◌, ◌<◌, ◌++◌, List, [], ◌∷◌, length, take, slice_index_or, option_to_list, All, Contains, Some, None}
use Rattle.resource_profile.specs.declared.NodeRoom.{NodeRoom}
use Rattle.resource_profile.specs.declared.Hold.{Hold}
use Rattle.backfill_planner.specs.declared.Share.{Share}
use Rattle.backfill_planner.specs.declared.Placed.{Placed}
use Rattle.backfill_planner.specs.declared.job.Barred.{Barred}
use Rattle.backfill_planner.specs.declared.job.PlanJob.{PlanJob}
use Rattle.backfill_planner.specs.Bases.{BaseView}
use Rattle.backfill_planner.specs.Giving.{window_end}
use Rattle.backfill_planner.specs.Lesser.{NoneBefore}
use Rattle.backfill_planner.specs.Plans.{AreCounted, holds_of, holds_before, placed_of, placement_of, plan_of}
use Rattle.backfill_planner.specs.Staying.{EndsInTime, IsNoFreer, IsOutside, StaysBefore, StaysFrom}
use Rattle.plain_data.specs.declared.seconds.TheConstants.{FOREVER, LAST_START}

pub record PlannerLaws : Type 0 where
  pub own : (rooms : List NodeRoom) (holds : List Hold) (job : PlanJob) (lo hi : ℕ) (placed : Placed)
      → placed_of rooms holds job lo hi ≡ Some placed
      → All (λ (share : Share). Contains job.nodes share.node) placed.parts
  pub some : (rooms : List NodeRoom) (holds : List Hold) (new_rooms : List NodeRoom) (new_holds : List Hold)
      (job : PlanJob) (before now last hi : ℕ) (placed : Placed)
      → EndsInTime job → before ≤ now → hi ≤ LAST_START
      → All (StaysFrom rooms holds new_rooms new_holds now) job.nodes
      → placed_of rooms holds job before last ≡ Some placed → now ≤ placed.start → placed.start ≤ hi
      → placed_of new_rooms new_holds job now hi ≡ Some placed
  pub none : (rooms : List NodeRoom) (holds : List Hold) (new_rooms : List NodeRoom) (new_holds : List Hold)
      (job : PlanJob) (before now last : ℕ)
      → EndsInTime job → before ≤ now → All (StaysFrom rooms holds new_rooms new_holds now) job.nodes
      → placed_of rooms holds job before last ≡ None → NoneBefore new_rooms new_holds job now (last + 1)
  pub nowhere : (rooms : List NodeRoom) (holds : List Hold) (job : PlanJob) (now last hi : ℕ)
      → hi ≤ last → hi ≤ LAST_START → NoneBefore rooms holds job now (last + 1)
      → placed_of rooms holds job now hi ≡ None
  pub some_before : (rooms : List NodeRoom) (holds : List Hold) (new_rooms : List NodeRoom) (new_holds : List Hold)
      (job : PlanJob) (before now last hi until : ℕ) (placed : Placed)
      → before ≤ now → hi ≤ LAST_START → All (StaysBefore rooms holds new_rooms new_holds now until) job.nodes
      → placed_of rooms holds job before last ≡ Some placed → now ≤ placed.start → placed.start ≤ hi
      → placed.start < until → window_end job placed.start ≤ until
      → placed_of new_rooms new_holds job now hi ≡ Some placed
  pub no_earlier : (rooms : List NodeRoom) (holds : List Hold) (new_rooms : List NodeRoom) (new_holds : List Hold)
      (job : PlanJob) (before now last until : ℕ) (placed : Placed)
      → before ≤ now → All (IsNoFreer rooms holds new_rooms new_holds now until) job.nodes
      → placed_of rooms holds job before last ≡ Some placed
      → placed.start ≤ until → window_end job placed.start ≤ until
      → NoneBefore new_rooms new_holds job now placed.start
  pub none_yet : (rooms : List NodeRoom) (holds : List Hold) (new_rooms : List NodeRoom) (new_holds : List Hold)
      (job : PlanJob) (before now last : ℕ)
      → EndsInTime job → before ≤ now → All (IsNoFreer rooms holds new_rooms new_holds now FOREVER) job.nodes
      → placed_of rooms holds job before last ≡ None → NoneBefore new_rooms new_holds job now (last + 1)
  pub goes_on : (base : BaseView) (ranked : List PlanJob) (now place : ℕ) (job : PlanJob)
      → place < length ranked → slice_index_or ranked place job ≡ job
      → holds_before base ranked now (place + 1)
      ≡ holds_before base ranked now place ++ holds_of job (placement_of base ranked now place job)
  pub plan_goes_on : (base : BaseView) (ranked : List PlanJob) (now place : ℕ) (job : PlanJob)
      → place < length ranked → slice_index_or ranked place job ≡ job
      → plan_of base (take (place + 1) ranked) now
      ≡ plan_of base (take place ranked) now ++ option_to_list (placement_of base ranked now place job)
  pub counts_go_on : (base : BaseView) (ranked : List PlanJob) (now done : ℕ) (counts : List ℕ) (more : ℕ)
      → AreCounted base ranked now done counts → more ≡ length (plan_of base (take (done + 1) ranked) now)
      → AreCounted base ranked now (done + 1) (counts ++ more ∷ [])
  pub none_comes : (rooms : List NodeRoom) (holds : List Hold) (job : PlanJob) (now last hi : ℕ)
      → now ≤ last → hi ≤ LAST_START → last < window_end job last → NoneBefore rooms holds job now (last + 1)
      → All (λ (hold : Hold). IsOutside last hi hold.until) holds
      → All (λ (time : Barred). IsOutside last hi time.until) job.barred
      → placed_of rooms holds job now hi ≡ None
