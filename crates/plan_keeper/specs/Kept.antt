-- What is kept in mind of the nodes while each job of the new list is the one at its place in the old list. Of the proof
-- alone: no public call speaks of it.
use Rattle.std.specs.Prelude.{◌≡◌, ◌≢◌, ◌⊎◌, ℕ, ◌+◌, ◌≤◌, ◌<◌, min, Bool, true, false, nat_eq, if◌then◌else◌, List, length, slice_index_or, All, Option, Some, None}
use Rattle.std.specs.List.{list_any}
use Rattle.resource_profile.specs.Profiles.{ProfileView}
use Rattle.backfill_planner.specs.declared.Share.{Share}
use Rattle.backfill_planner.specs.declared.Placed.{Placed}
use Rattle.backfill_planner.specs.declared.job.PlanJob.{PlanJob}
use Rattle.backfill_planner.specs.Bases.{BaseView}
use Rattle.backfill_planner.specs.Giving.{window_end}
use Rattle.backfill_planner.specs.Placements.{IsOnRooms}
use Rattle.backfill_planner.specs.Plans.{PlannedView, PlanningView, holds_before, placement_of}
use Rattle.backfill_planner.specs.Staying.{EndsInTime, IsNoFreer, StaysBefore, StaysFrom}
use Rattle.plan_keeper.specs.Steady.{IsSameFrom, AreSteady}
use Rattle.plan_keeper.specs.Marks.{AreAlike, IsGone, IsUnsettled}
use Rattle.plain_data.specs.declared.seconds.TheConstants.{FOREVER, LAST_START}

-- one of the parts is on the node
abbrev pub has_part : ℕ → List Share → Bool
has_part node parts = list_any (λ (share : Share). nat_eq node share.node) parts

-- the parts are on nodes of which there are so many
abbrev pub AreOnNodes : ℕ → Option Placed → Type 0
AreOnNodes nodes None = Unit {0}
AreOnNodes nodes (Some placed) = All (λ (share : Share). share.node < nodes) placed.parts

-- the second, or the placement's start where that is earlier and a part is on the node
abbrev pub lowered : Option Placed → ℕ → ℕ → ℕ
lowered None node second = second
lowered (Some placed) node second = if has_part node placed.parts then min placed.start second else second

-- of each node the second is lowered so
pub record Lowers (seconds : List ℕ) (placed : Option Placed) (new : List ℕ) : Type 0 where
  pub long : length new ≡ length seconds
  pub each : (node : ℕ) → node < length seconds
      → slice_index_or new node 0 ≡ lowered placed node (slice_index_or seconds node 0)

-- From the start of its old placement on more may be free, and from that of its new one on less.
pub record Moves (same no_freer : List ℕ) (before after : Option Placed) (new_same new_no_freer : List ℕ)
    : Type 0 where
  pub long : length new_same ≡ length same
  pub long_no_freer : length new_no_freer ≡ length no_freer
  pub same_each : (node : ℕ) → node < length same
      → slice_index_or new_same node 0 ≡ lowered after node (lowered before node (slice_index_or same node 0))
  pub no_freer_each : (node : ℕ) → node < length no_freer
      → slice_index_or new_no_freer node 0 ≡ lowered before node (slice_index_or no_freer node 0)

-- One job more is placed as it was, and nothing changes; or it isn't.
abbrev pub GoesOn : List ℕ → List ℕ → Option Placed → Option Placed → List ℕ → List ℕ → Type 0
GoesOn same no_freer before after new_same new_no_freer =
    ((before ≡ after) × (new_same ≡ same) × (new_no_freer ≡ no_freer))
    ⊎ ((before ≢ after) × Moves same no_freer before after new_same new_no_freer)

-- Once the jobs before a place are planned, as much is free of each node before the one second as was when those before a
-- place of the old list were, and no more before the other; nothing is known where the second is 0. What has changed did
-- so by a job that isn't steady, or by one that is gone.
pub record AreKept (old : PlannedView) (base : BaseView) (ranked : List PlanJob) (now before place : ℕ)
    (same no_freer : List ℕ) : Type 0 where
  pub long : length same ≡ length base.rooms
  pub long_no_freer : length no_freer ≡ length base.rooms
  pub order : (node : ℕ) → node < length base.rooms → slice_index_or same node 0 ≤ slice_index_or no_freer node 0
  pub stays : (node : ℕ) → node < length base.rooms → 0 < slice_index_or same node 0
      → StaysBefore old.base.rooms (holds_before old.base old.ranked old.moment before)
      base.rooms (holds_before base ranked now place) now (slice_index_or same node 0) node
  pub keeps : (node : ℕ) → node < length base.rooms → 0 < slice_index_or no_freer node 0
      → IsNoFreer old.base.rooms (holds_before old.base old.ranked old.moment before)
      base.rooms (holds_before base ranked now place) now (slice_index_or no_freer node 0) node
  pub changed : (steady : ℕ → Bool) → AreSteady old base ranked now steady → (node : ℕ) → node < length base.rooms
      → slice_index_or same node 0 < FOREVER → node < length old.base.rooms
      → StaysFrom old.base.rooms old.base.holds base.rooms base.holds now node
      → IsUnsettled ranked steady place node ⊎ IsGone now old.ranked ranked before node

-- so it is when a plan in the making has come as far
abbrev pub AreKeptTo : PlannedView → PlanningView → ℕ → List ℕ → List ℕ → Type 0
AreKeptTo old planning before same no_freer =
    AreKept old planning.base planning.ranked planning.moment before planning.done same no_freer

-- so far each job is the one at its place in the old list, and this is kept in mind
pub record HasBegun (old : PlannedView) (planning : PlanningView) (same no_freer : List ℕ) : Type 0 where
  pub alike : AreAlike planning.moment old.ranked planning.ranked planning.done
  pub kept : AreKeptTo old planning planning.done same no_freer

-- the next job is the one at this place of the old list
pub record IsThere (old : PlannedView) (planning : PlanningView) (before : ℕ) (job : PlanJob) : Type 0 where
  pub more : planning.done < length planning.ranked
  pub there : before < length old.ranked
  pub is : (d : PlanJob) → slice_index_or planning.ranked planning.done d ≡ job
  pub was : (d : PlanJob) → IsSameFrom planning.moment (slice_index_or old.ranked before d) job
  pub in_time : EndsInTime job
  pub windows : (start : ℕ) → start ≤ LAST_START → start < window_end job start
  pub later : old.moment ≤ planning.moment
  pub nodes : All (λ node. node < length planning.base.rooms) job.nodes
  pub old_nodes : All (IsOnRooms old.base.rooms) old.ranked

-- the placement that the job at this place had
abbrev pub IsThen : PlannedView → ℕ → Option Placed → Type 0
IsThen old before placed =
    (d : PlanJob) → placed ≡ placement_of old.base old.ranked old.moment before (slice_index_or old.ranked before d)

-- the start is one from now to the horizon, and as much is free of the job's nodes before its window's end
pub record CanStay (job : PlanJob) (placed : Placed) (same : List ℕ) (now horizon : ℕ) : Type 0 where
  pub from : now ≤ placed.start
  pub last : placed.start ≤ horizon
  pub nodes : All (λ node. window_end job placed.start ≤ slice_index_or same node 0) job.nodes

-- The second at which its search begins, where its old placement doesn't stand: at the old start, where no more is free
-- before its window's end; and where it had none, behind the old horizon, where no more is free ever.
abbrev pub BeginsAt : Option Placed → PlanJob → List ℕ → ℕ → ℕ → ℕ → Type 0
BeginsAt None job no_freer now last start =
    ((start ≡ last + 1) × All (λ node. FOREVER ≤ slice_index_or no_freer node 0) job.nodes)
    ⊎ ((start ≡ now) × ¬ All (λ node. FOREVER ≤ slice_index_or no_freer node 0) job.nodes)
BeginsAt (Some placed) job no_freer now last start =
    ((start ≡ placed.start) × (placed.start ≤ LAST_START)
    × All (λ node. window_end job placed.start ≤ slice_index_or no_freer node 0) job.nodes)
    ⊎ (start ≡ now)

-- the two seconds of a node before the first job
pub record IsKeptFrom (old new : ProfileView) (now node same no_freer : ℕ) : Type 0 where
  pub order : same ≤ no_freer
  pub stays : 0 < same → StaysBefore old.rooms old.holds new.rooms new.holds now same node
  pub keeps : 0 < no_freer → IsNoFreer old.rooms old.holds new.rooms new.holds now no_freer node
  pub all : node < length old.rooms → StaysFrom old.rooms old.holds new.rooms new.holds now node → FOREVER ≤ same

-- both seconds of each node with a part are known by these profiles, those of the others are what they were
pub record AreCountedAnew (old new : ProfileView) (now : ℕ) (parts : List Share)
    (same no_freer new_same new_no_freer : List ℕ) : Type 0 where
  pub long : length new_same ≡ length same
  pub long_no_freer : length new_no_freer ≡ length no_freer
  pub each : (node : ℕ) → node < length same
      → ((has_part node parts ≡ true)
      × IsKeptFrom old new now node (slice_index_or new_same node 0) (slice_index_or new_no_freer node 0))
      ⊎ ((has_part node parts ≡ false)
      × (slice_index_or new_same node 0 ≡ slice_index_or same node 0)
      × (slice_index_or new_no_freer node 0 ≡ slice_index_or no_freer node 0))
