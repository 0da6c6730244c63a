-- What due placements take of the nodes, and when they can.
use Rattle.std.specs.Prelude.{◌≡◌, ◌≢◌, ℕ, ◌+◌, ◌<◌, ◌≤◌, List, [], length, map, take, sum_by, All, AllPairs, Contains}
use Rattle.backfill_planner.specs.declared.Placed.{Placed}
use Rattle.backfill_planner.specs.declared.Share.{Share}
use Rattle.backfill_planner.specs.Placements.{AreParts}
use Rattle.backfill_planner.specs.Plans.{cpus_on, mem_on, starts_at}
use Rattle.plain_data.specs.Rows.{others_below}
use Rattle.job_table.specs.declared.record.Part.{Part}
use Rattle.node_state.specs.declared.record.Held.{Held}
use Rattle.node_state.specs.declared.record.NodeRecord.{NodeRecord}
use Rattle.node_state.specs.Held.{held_at, held_mem}
use Rattle.ctl_state.specs.Holding.{cpus_of, free_ids, mem_held, mem_of, parts_of}
use Rattle.ctl_state.specs.Planning.{room_of}
use Rattle.ctl_state.specs.Soundness.{IsSound, pending_ids}
use Rattle.ctl_state.specs.State.{State}
use Rattle.ctl_pass.specs.declared.starts.DueStart.{DueStart}
use Rattle.ctl_pass.specs.Awaiting.{IsPrepared, placements_of}
use Rattle.ctl_pass.specs.Starting.{JobStart}
use Rattle.plain_data.specs.declared.seconds.TheConstants.{LAST_START}

-- the processors of the node at a place that the index doesn't show as held, the lowest first
abbrev pub free_by : List NodeRecord → List Held → ℕ → List ℕ
free_by nodes held node = others_below (cpus_of (map room_of nodes) node) (held_at held node).cpus

-- the part that a share becomes beside what the index shows
abbrev pub part_by : List NodeRecord → List Held → Share → Part
part_by nodes held share =
    record { node = share.node; cpus = take share.cpus (free_by nodes held share.node); mem = share.mem }

-- the start of a job beside what the index shows
abbrev pub start_by : List NodeRecord → List Held → DueStart → JobStart
start_by nodes held start =
    record { id = start.placed.id; parts = map (part_by nodes held) start.placed.parts; nodes = start.nodes }

-- what the index shows as free of its node is enough for the share
pub record FitsShare (nodes : List NodeRecord) (held : List Held) (share : Share) : Type 0 where
  pub there : share.node < length nodes
  pub cpus : share.cpus ≤ length (free_by nodes held share.node)
  pub mem : held_mem held share.node + share.mem ≤ mem_of (map room_of nodes) share.node

-- the state at a moment, with no plan yet
abbrev pub unplanned : ℕ → State → State
unplanned now s = record s { plan = []; moment = now }

-- a placement that can start once it is due
pub record IsReady (s : State) (placed : Placed) : Type 0 where
  pub waits : Contains (pending_ids s.jobs) placed.id
  pub last : placed.start ≤ LAST_START
  pub some : 1 ≤ length placed.parts
  pub parts : AreParts (map room_of s.nodes) placed.parts

-- A plan whose due placements can start one after another: the state is sound, no two placements are of one job, and
-- what the due ones take of each node is free.
pub record CanStart (s : State) (plan : List Placed) : Type 0 where
  pub sound : IsSound s
  pub each : All (IsReady s) plan
  pub apart : AllPairs (λ (one other : Placed). one.id ≢ other.id) plan
  pub cpus : (node : ℕ)
      → sum_by (cpus_on node) (starts_at s.moment plan)
      ≤ length (free_ids (map room_of s.nodes) (parts_of s.jobs) node)
  pub mem : (node : ℕ)
      → mem_held (parts_of s.jobs) node + sum_by (mem_on node) (starts_at s.moment plan)
      ≤ mem_of (map room_of s.nodes) node

-- prepared starts of placements that are due, and can start one after another
pub record AreDue (s : State) (starts : List DueStart) : Type 0 where
  pub prepared : All (IsPrepared s.nodes) starts
  pub due : All (λ (placed : Placed). placed.start ≡ s.moment) (placements_of starts)
  pub can : CanStart s (placements_of starts)
