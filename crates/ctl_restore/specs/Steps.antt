-- The steps by which a state is restored. Of the proof alone: no statement on what is restored speaks of them.
use Rattle.std.specs.Prelude.{◌≡◌, ◌≢◌, ◌<◌, ◌≤◌, ◌+◌, ℕ, Bool, true, false, if◌then◌else◌, Option, Some, None, List, length, ◌++◌, position, bytes_eq, nat_le, ◌&&◌, All, AllPairs}
use Rattle.std.specs.HashMap.{HashMap, get}
use Rattle.std.specs.declared.hash.FoldHasher.{FoldHasher}
use Rattle.std.specs.declared.hash.BuildHasherDefault.{BuildHasherDefault}
use Rattle.request_data.specs.declared.report.Heard.{Heard}
use Rattle.resource_profile.specs.declared.NodeRoom.{NodeRoom}
use Rattle.node_state.specs.declared.record.DownBy.{DownBy}
use Rattle.node_state.specs.declared.record.DownBy.TheVariants.{No, Silent, Set}
use Rattle.node_state.specs.declared.record.Held.{Held}
use Rattle.node_state.specs.declared.record.NodeChange.TheVariants as change
use Rattle.node_state.specs.declared.record.NodeRecord.{NodeRecord}
use Rattle.node_state.specs.Held.{held_mem, holds_cpu}
use Rattle.node_state.specs.Nodes.{changed}
use Rattle.job_table.specs.declared.record.Part.{Part}
use Rattle.job_table.specs.declared.record.JobRecord.{JobRecord}
use Rattle.ctl_state.specs.Soundness.{AreUp}
use Rattle.run_limits.specs.declared.record.AssocRecord.{AssocRecord}
use Rattle.run_limits.specs.Accounts.{is_of_user}
use Rattle.ctl_state.specs.Holding.{IsHeldOnce, IsPartOf, mem_of}
use Rattle.ctl_state.specs.Index.{ShowsParts}
use Rattle.ctl_state.specs.State.{last_job_id, last_moment, last_second}
use Rattle.ctl_state.specs.Events.{waits}
use Rattle.job_table.specs.Table.{job_with}
use Rattle.backfill_planner.specs.declared.Placed.{Placed}
use Rattle.saved_data.specs.declared.job.SavedJob.{SavedJob}
use Rattle.saved_data.specs.declared.parts.SavedArray.{SavedArray}
use Rattle.saved_data.specs.declared.parts.SavedNode.{SavedNode}
use Rattle.saved_data.specs.declared.parts.SavedPartition.{SavedPartition}
use Rattle.saved_data.specs.declared.parts.SavedUsage.{SavedUsage}
use Rattle.saved_data.specs.declared.saved.Saved.{Saved}
use Rattle.ctl_restore.specs.Fits.{HasArrays, IsStanding, IsWellTimed}

-- places by names
abbrev pub Places : Type 0
Places = HashMap (List ℕ) ℕ (BuildHasherDefault FoldHasher)

-- they lead to the first line of each name
abbrev pub LeadsToLines : List SavedNode → Places → Type 0
LeadsToLines lines places =
    (name : List ℕ) → get bytes_eq places name ≡ position (λ (line : SavedNode). bytes_eq line.name name) lines

-- they lead to the first association of each user
abbrev pub LeadsToUsers : List AssocRecord → Places → Type 0
LeadsToUsers assocs places = (name : List ℕ) → get bytes_eq places name ≡ position (is_of_user name) assocs

-- nothing was heard of the node yet
pub record IsUnheard (node : NodeRecord) : Type 0 where
  pub heard : node.heard ≡ None
  pub empty : node.empty ≡ false
  pub down : node.down ≢ Silent

-- a node once a report of it was noted, if there is one
abbrev pub heard_as : Option Heard → Bool → NodeRecord → NodeRecord
heard_as None empty node = node
heard_as (Some heard) empty node = changed (change.Heard heard empty) node

-- a node that was up, once it is down as its line says
abbrev pub down_as : SavedNode → DownBy → NodeRecord → NodeRecord
down_as line No node = node
down_as line Silent node = changed change.Silent node
down_as line Set node = heard_as (if line.empty then line.heard else None) true (changed change.Down node)

-- a node that isn't drained, once it is where its line says so
abbrev pub drained_as : Bool → NodeRecord → NodeRecord
drained_as false node = node
drained_as true node = changed change.Drain node

-- a part is of a node that there is, and what it asks for is free there, beside what is held
pub record IsFree (rooms : List NodeRoom) (held : List Held) (part : Part) : Type 0 where
  pub of : IsPartOf rooms part
  pub cpus : All (λ cpu. holds_cpu held part.node cpu ≡ false) part.cpus
  pub mem : held_mem held part.node + part.mem ≤ mem_of rooms part.node

-- one part more is held: it is taken where the parts are still held once with it
pub record Holds (rooms : List NodeRoom) (before after : List Held) (more : List Part) (is_taken : Bool) : Type 0 where
  pub taken : is_taken ≡ true → (parts : List Part) → ShowsParts before parts → IsHeldOnce rooms parts
      → ShowsParts after (parts ++ more) × IsHeldOnce rooms (parts ++ more)
  pub refused : is_taken ≡ false → (parts : List Part) → ShowsParts before parts → IsHeldOnce rooms (parts ++ more) → ⊥

-- what can be seen of a saved state alone, of what fits: beside the jobs and their arrays
pub record IsPlainBeside (saved : Saved) : Type 0 where
  pub moment : saved.moment ≤ last_moment
  pub next : saved.next_id ≤ last_job_id + 1
  pub partitions : AllPairs (λ (one other : SavedPartition). one.name ≢ other.name) saved.partitions
  pub standing : All (IsStanding saved.moment) saved.nodes
  pub usage : All (λ (line : SavedUsage). line.total ≤ 4294967295) saved.usage

-- of the numbers of jobs and arrays
pub record IsNumbered (saved : Saved) : Type 0 where
  pub apart : AllPairs (λ (one other : SavedArray). one.id < other.id) saved.arrays
  pub rising : AllPairs (λ (one other : SavedJob). one.id < other.id) saved.jobs
  pub below_next : All (λ (job : SavedJob). job.id < saved.next_id) saved.jobs
  pub few : length saved.jobs ≤ 20000

-- and all of it
pub record IsPlain (saved : Saved) : Type 0 where
  pub beside : IsPlainBeside saved
  pub numbered : IsNumbered saved
  pub arrays : HasArrays saved
  pub timed : All IsWellTimed saved.jobs

-- what the job holds is of nodes that are up
pub record IsOnUp (nodes : List NodeRecord) (job : JobRecord) : Type 0 where
  pub up : AreUp nodes job.parts

-- the placement is of a job that waits, at a second that can be printed
unfoldable pub is_planned : List JobRecord → Placed → Bool
is_planned jobs placed = nat_le placed.start last_second && waits (job_with placed.id jobs)
