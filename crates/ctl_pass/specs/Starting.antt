-- What comes of a plan: the jobs that are planned at once start, the other placements stay.
use Rattle.std.specs.Prelude.{◌≡◌, ℕ, ◌≤◌, Bool, false, ◌&&◌, nat_eq, is_none, if◌then◌else◌, List, [], ◌∷◌, map, fold, take, length, Option, Some, None, Contains}
use Rattle.std.specs.List.{AllZip}
use Rattle.request_data.specs.declared.state.JobState.TheVariants.{Running}
use Rattle.resource_profile.specs.declared.NodeRoom.{NodeRoom}
use Rattle.backfill_planner.specs.declared.Share.{Share}
use Rattle.backfill_planner.specs.declared.Placed.{Placed}
use Rattle.job_table.specs.declared.record.Part.{Part}
use Rattle.job_table.specs.declared.record.JobRecord.{JobRecord}
use Rattle.node_state.specs.declared.record.NodeRecord.{NodeRecord}
use Rattle.job_table.specs.Table.{job_with}
use Rattle.ctl_state.specs.Events.{started_as}
use Rattle.ctl_state.specs.Planning.{names_of, room_of}
use Rattle.ctl_state.specs.State.{State}
use Rattle.run_limits.specs.Limits.{first_reason}
use Rattle.ctl_waiting.specs.Reasons.{reached_beside}
use Rattle.ctl_state.specs.Holding.{free_ids, parts_of}
use Rattle.ctl_state.specs.Soundness.{pending_ids}

-- the start of a job
pub record JobStart : Type 0 where
  pub id : ℕ
  -- in the order of its nodes
  pub parts : List Part
  -- the names of the nodes of its parts
  pub nodes : List (List ℕ)

-- the part that a share becomes: with the lowest processors of the node that stand in no part
abbrev pub part_of : List NodeRoom → List JobRecord → Share → Part
part_of rooms jobs share = record {
  node = share.node;
  cpus = take share.cpus (free_ids rooms (parts_of jobs) share.node);
  mem = share.mem;
}

-- the start of a placement beside what these jobs hold
abbrev pub start_of : List NodeRecord → List JobRecord → Placed → JobStart
start_of nodes jobs placed =
    let parts = map (part_of (map room_of nodes) jobs) placed.parts in
    record { id = placed.id; parts = parts; nodes = names_of nodes parts }

-- the jobs once this one has started
abbrev pub begun : ℕ → List JobRecord → JobStart → List JobRecord
begun now jobs start = map (started_as now start.id start.parts start.nodes) jobs

-- the jobs once the job of this placement has started
abbrev pub begun_by : List NodeRecord → ℕ → List JobRecord → Placed → List JobRecord
begun_by nodes now jobs placed = begun now jobs (start_of nodes jobs placed)

-- the job reaches no limit beside those of these jobs that hold processors
abbrev pub is_free : State → List JobRecord → Option JobRecord → Bool
is_free s jobs None = false
is_free s jobs (Some job) = is_none (first_reason (reached_beside s jobs job))

-- the job with this number, one of these, may start
unfoldable pub may_start : State → List JobRecord → ℕ → Bool
may_start s jobs id = is_free s jobs (job_with id jobs)

-- the jobs once those have started, these starts, and the placements that stay
pub record Started : Type 0 where
  pub jobs : List JobRecord
  pub starts : List JobStart
  pub stays : List Placed

-- each placement in order: it starts where it is planned at once and its job reaches no limit, beside what the jobs
-- hold with those started before it
unfoldable pub started : State → ℕ → List JobRecord → List Placed → Started
started s now jobs [] = record { jobs = jobs; starts = []; stays = [] }
started s now jobs (placed ∷ later) =
    if nat_eq placed.start now && may_start s jobs placed.id
    then (
    let start = start_of s.nodes jobs placed in
    let rest = started s now (begun now jobs start) later in
    record rest { starts = start ∷ rest.starts }
    )
    else (let rest = started s now jobs later in record rest { stays = placed ∷ rest.stays })

-- the placements that start, in this order
unfoldable pub due : State → ℕ → List JobRecord → List Placed → List Placed
due s now jobs [] = []
due s now jobs (placed ∷ later) =
    if nat_eq placed.start now && may_start s jobs placed.id
    then placed ∷ due s now (begun_by s.nodes now jobs placed) later
    else due s now jobs later

-- after so many of these starts, the first ones, the job with this number still waited, and reached a limit
pub record WasHeldBack (s : State) (now : ℕ) (jobs : List JobRecord) (starts : List JobStart) (id : ℕ) : Type 0 where
  pub before : ℕ
  pub some : before ≤ length starts
  pub waits : Contains (pending_ids (fold (begun now) jobs (take before starts))) id
  pub reached : may_start s (fold (begun now) jobs (take before starts)) id ≡ false

-- the part has all that the share was planned
pub record IsAsPlanned (share : Share) (part : Part) : Type 0 where
  pub node : part.node ≡ share.node
  pub cpus : length part.cpus ≡ share.cpus
  pub mem : part.mem ≡ share.mem

-- the job is the placed one, and runs since this moment with all that was planned for it
pub record HasStarted (now : ℕ) (placed : Placed) (job : JobRecord) : Type 0 where
  pub id : job.id ≡ placed.id
  pub state : job.state ≡ Running
  pub started : job.started ≡ Some now
  pub parts : AllZip IsAsPlanned placed.parts job.parts
