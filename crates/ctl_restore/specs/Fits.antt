-- What fits: of which saved states there is a controller over these two files.
use Rattle.std.specs.Prelude.{◌≡◌, ◌≢◌, ℕ, ◌+◌, ◌<◌, ◌≤◌, Bool, true, ◌⊎◌, nat_lt, nat_le, ◌&&◌, Bool, max, is_some, is_none, unwrap_or, IfSome, List, length, slice_get, All, AllPairs, Any, Some}
use Rattle.std.specs.List.{list_all}
use Rattle.plain_data.specs.Assocs.{AssocView}
use Rattle.plain_data.specs.Confs.{ConfView}
use Rattle.reply_data.specs.declared.view.NamedPart.{NamedPart}
use Rattle.node_state.specs.declared.record.DownBy.TheVariants.{Set}
use Rattle.node_state.specs.declared.record.NodeRecord.{NodeRecord}
use Rattle.node_state.specs.Nodes.{place_named}
use Rattle.node_state.specs.declared.partition_record.PartRecord.{PartRecord}
use Rattle.node_state.specs.Partitions.{place_meant}
use Rattle.job_table.specs.JobStates.{is_pending, is_running}
use Rattle.run_limits.specs.declared.record.AssocRecord.{AssocRecord}
use Rattle.run_limits.specs.declared.record.QosRecord.{QosRecord}
use Rattle.run_limits.specs.Accounts.{place_in, qos_meant}
use Rattle.ctl_state.specs.State.{State, last_second, opening}
use Rattle.ctl_state.specs.Soundness.{IsSound}
use Rattle.saved_data.specs.declared.job.SavedJob.{SavedJob}
use Rattle.saved_data.specs.declared.parts.SavedArray.{SavedArray}
use Rattle.saved_data.specs.declared.parts.SavedNode.{SavedNode}
use Rattle.saved_data.specs.declared.parts.SavedPartition.{SavedPartition}
use Rattle.saved_data.specs.declared.parts.SavedReservation.{SavedReservation}
use Rattle.saved_data.specs.declared.parts.SavedUsage.{SavedUsage}
use Rattle.saved_data.specs.declared.saved.Saved.{Saved}
use Rattle.ctl_restore.specs.Restored.{restored, standings}

-- the names lead somewhere
unfoldable pub is_node : List NodeRecord → List ℕ → Bool
is_node nodes name = is_some (place_named name nodes)

unfoldable pub is_partition : List PartRecord → List ℕ → Bool
is_partition partitions name = is_some (place_meant (Some name) partitions)

unfoldable pub is_user_of : List AssocRecord → List ℕ → List ℕ → Bool
is_user_of assocs user account = is_some (place_in assocs user account)

unfoldable pub is_qos : List QosRecord → List ℕ → Bool
is_qos qos name = is_some (qos_meant qos (Some name))

-- each of these names is a node's
unfoldable pub are_nodes : List NodeRecord → List (List ℕ) → Bool
are_nodes nodes names = list_all (is_node nodes) names

-- the job is of a partition, an association and a quality of service that there are, and holds parts of nodes that
-- there are
pub record IsKnownJob (s : State) (job : SavedJob) : Type 0 where
  pub partition : is_partition s.partitions job.partition ≡ true
  pub assoc : is_user_of s.assocs job.user job.terms.account ≡ true
  pub qos : is_qos s.qos job.terms.qos ≡ true
  pub nodes : All (λ (part : NamedPart). is_node s.nodes part.node ≡ true) job.parts

-- All is known that must be: any other name may lead nowhere, such as that of a job's reservation.
pub record IsKnown (s : State) (saved : Saved) : Type 0 where
  pub partitions : All (λ (line : SavedPartition). is_partition s.partitions line.name ≡ true) saved.partitions
  pub nodes : All (λ (line : SavedNode). is_node s.nodes line.name ≡ true) saved.nodes
  pub usage : All (λ (line : SavedUsage). is_user_of s.assocs line.user line.account ≡ true) saved.usage
  pub reserved : All (λ (line : SavedReservation). are_nodes s.nodes line.nodes ≡ true) saved.reservations
  pub jobs : All (IsKnownJob s) saved.jobs

-- what the two lines count is another user's, or another account's
abbrev pub AreOfOthers : SavedUsage → SavedUsage → Type 0
AreOfOthers one other = one.account ≡ other.account → one.user ≢ other.user

-- Nothing is said twice. Reservations and jobs are not either: that is part of what is sound.
pub record IsSaidOnce (saved : Saved) : Type 0 where
  pub partitions : AllPairs (λ (one other : SavedPartition). one.name ≢ other.name) saved.partitions
  -- nor is a node both there and dropped
  pub nodes : AllPairs (λ (one other : SavedNode). one.name ≢ other.name) (standings saved)
  pub usage : AllPairs AreOfOthers saved.usage
  pub arrays : AllPairs (λ (one other : SavedArray). one.id < other.id) saved.arrays

-- a node is empty since it was set down only where it was set down, and heard
abbrev pub IsEmptyOnce : SavedNode → Type 0
IsEmptyOnce line = line.empty ≡ true → (line.down ≡ Set) × (is_some line.heard ≡ true)

-- A node's pair isn't of a later moment.
pub record IsStanding (moment : ℕ) (line : SavedNode) : Type 0 where
  pub empty : IsEmptyOnce line
  pub heard : IfSome line.heard (λ heard. heard.moment ≤ moment)

-- the job's number is that of a place in the array's list
abbrev pub is_within : SavedArray → SavedJob → Bool
is_within array job = nat_le array.id job.id && nat_lt job.id (array.id + length array.indices)

-- the job is the task of the array that stands at the place of its index
pub record IsTaskOf (job : SavedJob) (array : SavedArray) : Type 0 where
  pub of : job.array ≡ Some array.id
  pub within : is_within array job ≡ true
  pub index : (place : ℕ) → array.id + place ≡ job.id → slice_get array.indices place ≡ job.index

-- an array's indices rise, and are in their range
pub record IsList (array : SavedArray) : Type 0 where
  pub rising : AllPairs (λ one other. one < other) array.indices
  pub small : All (λ index. index ≤ 99999) array.indices
  pub few : (1 ≤ length array.indices) × (length array.indices ≤ 10001)

-- they end before the next number
pub record IsArray (next_id : ℕ) (array : SavedArray) : Type 0 where
  pub list : IsList array
  pub next : array.id + length array.indices ≤ next_id

-- a job without an array has no index, nor a greatest number of tasks at once
pub record IsLone (job : SavedJob) : Type 0 where
  pub array : is_none job.array ≡ true
  pub index : is_none job.index ≡ true
  pub at_once : is_none job.terms.at_once ≡ true

-- there are jobs with numbers within the array's, and each of these is of it
pub record HasItsTasks (jobs : List SavedJob) (array : SavedArray) : Type 0 where
  pub some : Any (λ (job : SavedJob). is_within array job ≡ true) jobs
  pub all : All (λ (job : SavedJob). is_within array job ≡ true → job.array ≡ Some array.id) jobs

-- The arrays are just those of which there are tasks, and each job is alone or a task of one of them.
pub record HasArrays (saved : Saved) : Type 0 where
  pub each : All (IsArray saved.next_id) saved.arrays
  pub tasks : All (HasItsTasks saved.jobs) saved.arrays
  pub jobs : All (λ (job : SavedJob). IsLone job ⊎ Any (IsTaskOf job) saved.arrays) saved.jobs

-- A job's moments fit its state, beside what is sound of them: no end lies before its start, nothing of them ahead; who
-- runs or completes has a start, who completes or has ended an end.
pub record IsWellTimed (job : SavedJob) : Type 0 where
  pub eligible : job.eligible ≡ max job.submit (unwrap_or job.terms.begin 0)
  pub started : is_some job.started ≡ nat_lt 0 job.starts
  pub running : is_running job.state ≡ true → is_none job.ended ≡ true
  pub pending : is_pending job.state ≡ true → is_some job.ended ≡ is_some job.started
  pub starts : job.starts ≤ 4000000000

-- a reservation's second is one that its type holds
pub record HasSeconds (line : SavedReservation) : Type 0 where
  pub start : line.start ≤ last_second
  pub end : line.end ≤ last_second

-- What is saved fits: all that must be is known, nothing is said twice, and it is that of a sound state.
pub record Fits (conf : ConfView) (file : AssocView) (saved : Saved) : Type 0 where
  pub known : IsKnown (opening conf file) saved
  pub once : IsSaidOnce saved
  pub standing : All (IsStanding saved.moment) saved.nodes
  pub usage : All (λ (line : SavedUsage). line.total ≤ 4294967295) saved.usage
  pub seconds : All HasSeconds saved.reservations
  pub arrays : HasArrays saved
  pub timed : All IsWellTimed saved.jobs
  pub few : length saved.jobs ≤ 20000
  -- That jobs' numbers rise and are below the next one; that reservations have their names, times and nodes for
  -- themselves, and are 256 at most; that moments don't lie ahead of the last one, which is one that a request can have;
  -- that only running and completing jobs hold parts, one at least and no two of one node, of nodes that are up, no
  -- processor twice and no more memory than there is; and that the plan is one of waiting jobs.
  pub sound : IsSound (restored conf file saved)

-- The state is restored of what is saved.
pub record IsRestored (conf : ConfView) (file : AssocView) (saved : Saved) (s : State) : Type 0 where
  pub fits : Fits conf file saved
  pub state : s ≡ restored conf file saved
