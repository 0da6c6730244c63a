-- What a placement is, by the sets that fit at each second.
use Rattle.std.specs.Prelude.{◌≡◌, ◌≢◌, ℕ, ◌+◌, ◌≤◌, ◌<◌, true, List, length, sum_by, All, AllPairs, IfSome}
use Rattle.resource_profile.specs.declared.NodeRoom.{NodeRoom}
use Rattle.resource_profile.specs.declared.Hold.{Hold}
use Rattle.resource_profile.specs.Free.{room_at, held_cpus, held_mem}
use Rattle.resource_profile.specs.Sets.{Fits, IsChosen}
use Rattle.backfill_planner.specs.declared.Share.{Share}
use Rattle.backfill_planner.specs.declared.Placed.{Placed}
use Rattle.backfill_planner.specs.declared.job.PlanJob.{PlanJob}
use Rattle.backfill_planner.specs.Bases.{BaseView}
use Rattle.backfill_planner.specs.Giving.{capacities}
use Rattle.backfill_planner.specs.Plans.{shares_of, starts_at, cpus_on, mem_on}

-- the set of the job's nodes fits at this second
abbrev pub FitsAt : List NodeRoom → List Hold → PlanJob → ℕ → List ℕ → Type 0
FitsAt rooms holds job second set = Fits (capacities rooms holds job second) job.need set

-- the job is placed at a second from `lo` to `hi`, on the chosen set there; at no earlier second from `lo` on does any
-- set fit
pub record IsPlacement (rooms : List NodeRoom) (holds : List Hold) (job : PlanJob) (lo hi : ℕ) (placed : Placed)
    : Type 0 where
  pub id : placed.id ≡ job.id
  pub from : lo ≤ placed.start
  pub last : placed.start ≤ hi
  pub set : List ℕ
  pub is_chosen : IsChosen (capacities rooms holds job placed.start) job.need set
  pub parts : placed.parts ≡ shares_of rooms holds job placed.start set
  pub first : (second : ℕ) (other : List ℕ) → lo ≤ second → second < placed.start
      → ¬ FitsAt rooms holds job second other

-- what its type keeps of every job: its nodes differ, and its processors for a task and its limit are 1 at least
pub record IsPlannable (job : PlanJob) : Type 0 where
  pub once : AllPairs (λ one other. one ≢ other) job.nodes
  pub cpus : 1 ≤ job.cpus_per_task
  pub seconds : IfSome job.seconds (λ seconds. 1 ≤ seconds)

-- the job's nodes are all there
abbrev pub IsOnRooms : List NodeRoom → PlanJob → Type 0
IsOnRooms rooms job = All (λ node. node < length rooms) job.nodes

-- a part is on a node that is there and that a plan may use, and has a task and a processor at least
pub record IsPart (rooms : List NodeRoom) (share : Share) : Type 0 where
  pub node : share.node < length rooms
  pub usable : (room_at rooms share.node).usable ≡ true
  pub tasks : 1 ≤ share.tasks
  pub cpus : 1 ≤ share.cpus

-- a placement's parts, on nodes that differ
pub record AreParts (rooms : List NodeRoom) (parts : List Share) : Type 0 where
  pub each : All (IsPart rooms) parts
  pub apart : AllPairs (λ (one other : Share). one.node ≢ other.node) parts

-- On each node, what the base holds at the moment and what those placements take that begin at it are together no more
-- than the room.
pub record StartsFit (base : BaseView) (placements : List Placed) (now : ℕ) : Type 0 where
  pub cpus : (node : ℕ)
      → held_cpus base.holds node now + sum_by (λ placed. cpus_on node placed) (starts_at now placements)
      ≤ (room_at base.rooms node).cpus
  pub mem : (node : ℕ)
      → held_mem base.holds node now + sum_by (λ placed. mem_on node placed) (starts_at now placements)
      ≤ (room_at base.rooms node).mem
