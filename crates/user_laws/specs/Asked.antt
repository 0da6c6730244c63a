-- What a job has asked for, and has once a pass has started it.
use Rattle.std.specs.Prelude.{◌≡◌, ◌⊎◌, ℕ, ◌*◌, ◌≤◌, Bool, true, ◌||◌, if◌then◌else◌, unwrap_or, List, length, map, sum, All, Any, Contains, Some}
use Rattle.std.specs.List.{AllZip}
use Rattle.resource_profile.specs.declared.NodeRoom.{NodeRoom}
use Rattle.resource_profile.specs.Free.{room_at}
use Rattle.backfill_planner.specs.Giving.{asked_mem}
use Rattle.node_state.specs.declared.partition_record.PartRecord.{PartRecord}
use Rattle.node_state.specs.Nodes.{is_available, is_named}
use Rattle.job_table.specs.declared.record.JobRecord.{JobRecord}
use Rattle.job_table.specs.declared.record.Part.{Part}
use Rattle.job_table.specs.declared.terms.Terms.{Terms}
use Rattle.job_table.specs.JobStates.{is_running}
use Rattle.ctl_state.specs.Holding.{OnNodesApart}
use Rattle.ctl_state.specs.Planning.{bounds_in, is_at, is_within, may_run, room_of}
use Rattle.ctl_state.specs.State.{State, partition_of}

-- The node at the place is one that the job may get: of its partition, neither down nor to be drained, none that the job
-- excludes, with the features that it wants, and one of the reservation that it names, if it names one.
pub record IsForJob (s : State) (partition : PartRecord) (terms : Terms) (place : ℕ) : Type 0 where
  pub among : Contains partition.nodes place
  pub available : is_at is_available s.nodes place ≡ true
  pub suits : is_at (may_run terms) s.nodes place ≡ true
  pub reserved : is_within s.reservations terms.reservation place ≡ true

-- the job gets whole nodes, as it asks itself or its partition does
abbrev pub gets_whole : PartRecord → Terms → Bool
gets_whole partition terms = terms.exclusive || partition.conf.exclusive

-- the processors, and the megabytes, that so many tasks ask for on a node
abbrev pub cpus_for : Terms → ℕ → ℕ
cpus_for terms tasks = tasks * terms.cpus_per_task

abbrev pub mem_for : Terms → NodeRoom → ℕ → ℕ
mem_for terms room tasks = asked_mem terms.mem room (cpus_for terms tasks)

-- The part of the job, on a node of this room, has so many tasks: one at least, and no more than a node of the job may
-- have. It has what these ask for; of a whole node it has all, which is enough.
pub record HasTasks (partition : PartRecord) (terms : Terms) (room : NodeRoom) (tasks : ℕ) (part : Part) : Type 0 where
  pub some : 1 ≤ tasks
  pub few : tasks ≤ unwrap_or terms.tasks_per_node terms.tasks
  pub cpus : length part.cpus ≡ (if gets_whole partition terms then room.cpus else cpus_for terms tasks)
  pub mem : part.mem ≡ (if gets_whole partition terms then room.mem else mem_for terms room tasks)
  pub enough_cpus : cpus_for terms tasks ≤ length part.cpus
  pub enough_mem : mem_for terms room tasks ≤ part.mem

-- what the node of the part has in all
abbrev pub room_under : State → Part → NodeRoom
room_under s part = room_at (map room_of s.nodes) part.node

-- The job has these parts, which are what it has asked for: on nodes that differ and that it may get, all that it
-- requires among them, as many as it and its partition say; and its tasks are spread over them, all of them.
pub record HasWhatWasAsked (s : State) (job : JobRecord) (parts : List Part) : Type 0 where
  pub partition : PartRecord
  pub of_partition : partition_of s job ≡ Some partition
  pub apart : OnNodesApart parts
  pub nodes : All (λ (part : Part). IsForJob s partition job.terms part.node) parts
  pub required : All (λ name. Any (λ (part : Part). is_at (is_named name) s.nodes part.node ≡ true) parts)
      job.terms.required
  pub bounds : ℕ × ℕ
  pub bounded : bounds_in partition job.terms ≡ Some bounds
  pub least : bounds.0 ≤ length parts
  pub most : length parts ≤ bounds.1
  pub tasks : List ℕ
  pub all : sum tasks ≡ job.terms.tasks
  pub each : AllZip (λ some (part : Part). HasTasks partition job.terms (room_under s part) some part) tasks parts

-- the job began at this moment, as one that there was before, and has what that has asked for
pub record HasBegun (s : State) (moment : ℕ) (after before : JobRecord) : Type 0 where
  pub id : after.id ≡ before.id
  pub began : after.started ≡ Some moment
  pub asked : HasWhatWasAsked s before after.parts

-- whoever runs in the state after a pass ran just so in the state before, or has begun
abbrev pub StartsHaveWhatWasAsked : State → State → ℕ → Type 0
StartsHaveWhatWasAsked s after moment = All (λ (job : JobRecord). is_running job.state ≡ true
    → Contains s.jobs job ⊎ Any (HasBegun after moment job) s.jobs) after.jobs
