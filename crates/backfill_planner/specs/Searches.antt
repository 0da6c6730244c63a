-- What a plan keeps in mind of its searches. Of the proof alone: no public call speaks of it.
use Rattle.std.specs.Prelude.{ℕ, ◌+◌, ◌<◌, List, length, slice_index_or, Option, Some, None}
use Rattle.resource_profile.specs.declared.NodeRoom.{NodeRoom}
use Rattle.resource_profile.specs.declared.Hold.{Hold}
use Rattle.backfill_planner.specs.declared.job.PlanJob.{PlanJob}
use Rattle.backfill_planner.specs.declared.Placed.{Placed}
use Rattle.backfill_planner.specs.declared.seen.Seen.{Seen}
use Rattle.backfill_planner.specs.Lesser.{HaveSameNodes, NoneBefore}

-- before the bound no set fits of the job that was searched for, and the job at `alike` may have the same nodes
pub record IsSeen (rooms : List NodeRoom) (holds : List Hold) (ranked : List PlanJob) (now : ℕ) (seen : Seen)
    : Type 0 where
  pub there : seen.place < length ranked
  pub none : (d : PlanJob) → NoneBefore rooms holds (slice_index_or ranked seen.place d) now seen.bound
  pub alike_there : seen.alike < length ranked
  pub alike : (d : PlanJob) → HaveSameNodes (slice_index_or ranked seen.alike d) (slice_index_or ranked seen.place d)

-- the second before which no set fits of the job that has this placement, or none, among the seconds up to `hi`
abbrev pub bound_of : Option Placed → ℕ → ℕ
bound_of None hi = hi + 1
bound_of (Some placed) hi = placed.start
