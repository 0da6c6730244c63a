-- What is kept of each state that a controller comes to.
use Rattle.std.specs.Prelude.{◌≡◌, ◌≢◌, ◌+◌, ◌<◌, ◌≤◌, ◌⊎◌, ◌&&◌, ℕ, Bool, true, false, List, length, map, max, nat_le, nat_lt, slice_get, is_none, is_some, unwrap_or, IfSome, All, AllPairs, Any, Option, None, Some}
use Rattle.std.specs.List.{list_all}
use Rattle.plain_data.specs.Assocs.{AssocView, IsAssocFile}
use Rattle.plain_data.specs.Confs.{ConfView, IsConf}
use Rattle.plain_data.specs.declared.array.ArraySpec.{ArraySpec}
use Rattle.plain_data.specs.declared.conf.NodeConf.{NodeConf}
use Rattle.plain_data.specs.declared.conf.PartConf.{PartConf}
use Rattle.plain_data.specs.declared.conf.PartState.TheVariants.{Up}
use Rattle.request_data.specs.declared.request.Request.{Request}
use Rattle.request_data.specs.declared.request.Request.TheVariants.{Submit, CreateReservation, Reconfigure}
use Rattle.request_data.specs.declared.state.JobState.{JobState}
use Rattle.request_data.specs.declared.state.JobState.TheVariants.{Pending, Running, Completing, Ended}
use Rattle.node_state.specs.declared.record.DownBy.TheVariants.{Set}
use Rattle.node_state.specs.declared.record.DroppedNode.{DroppedNode}
use Rattle.node_state.specs.declared.record.NodeRecord.{NodeRecord}
use Rattle.node_state.specs.Nodes.{place_named}
use Rattle.node_state.specs.declared.partition_record.PartRecord.{PartRecord}
use Rattle.node_state.specs.Partitions.{in_state}
use Rattle.job_table.specs.declared.record.JobRecord.{JobRecord}
use Rattle.job_table.specs.Usage.{greatest_usage}
use Rattle.backfill_planner.specs.declared.Placed.{Placed}
use Rattle.backfill_planner.specs.declared.Share.{Share}
use Rattle.run_limits.specs.declared.record.AssocRecord.{AssocRecord}
use Rattle.run_limits.specs.Accounts.{qos_meant}
use Rattle.node_state.specs.declared.reservation_record.Reservation.{Reservation}
use Rattle.ctl_state.specs.declared.record.ArrayRecord.{ArrayRecord}
use Rattle.ctl_state.specs.State.{State, last_moment, last_second, opening}
use Rattle.ctl_jobs.specs.Submission.{account_at}
use Rattle.ctl_nodes.specs.Reserving.{places_among}
use Rattle.saved_data.specs.Order.{IsNotBehind}

-- a controller has no more jobs, whatever MaxJobCount says
abbrev pub most_jobs : ℕ
most_jobs = 20000

-- what is true of each two files that a controller opens with, as their types keep it
pub record AreFiles (first : ConfView) (second : AssocView) : Type 0 where
  pub conf : IsConf first.nodes first.partitions
  pub file : IsAssocFile second.assocs second.qos
  pub most : first.settings.max_job_count ≤ most_jobs

-- the request is a new slurm.conf
abbrev pub is_reconfigure : Request → Bool
is_reconfigure (Reconfigure conf bytes) = true
is_reconfigure request = false

-- the indices rise, and are in their range
pub record AreIndices (indices : List ℕ) : Type 0 where
  pub rising : AllPairs (λ one other. one < other) indices
  pub small : All (λ index. index ≤ 99999) indices
  pub few : (1 ≤ length indices) × (length indices ≤ 10001)

-- the request is in the ranges of its arrays, seconds and settings, as their types keep them
abbrev pub IsInTypes : Request → Type 0
IsInTypes (Submit desc) = IfSome desc.array (λ (array : ArraySpec). AreIndices array.indices)
IsInTypes (Reconfigure conf bytes) = conf.settings.max_job_count ≤ most_jobs
IsInTypes (CreateReservation desc) = (desc.start ≤ last_moment) × (desc.end ≤ last_second)
IsInTypes request = Unit {0}

-- what slurm.conf says of the nodes
abbrev pub confs_of : List NodeRecord → List NodeConf
confs_of nodes = map (λ (node : NodeRecord). node.conf) nodes

-- and of the partitions
abbrev pub part_confs_of : List PartRecord → List PartConf
part_confs_of partitions = map (λ (partition : PartRecord). partition.conf) partitions

-- The slurm.conf in force: the one that opened the state, or the last one that was taken since. Its first number of a job
-- is the opening's.
abbrev pub in_force : State → ConfView
in_force s =
    record { settings = s.settings; nodes = confs_of s.nodes; partitions = part_confs_of s.partitions }

-- the partitions but for their states
abbrev pub without_states : List PartRecord → List PartRecord
without_states partitions = map (in_state Up) partitions

-- What is as when the state opened: all that the two files say.
pub record IsAsOpened (opened s : State) : Type 0 where
  pub settings : s.settings ≡ opened.settings
  pub assocs : s.assocs ≡ opened.assocs
  pub qos : s.qos ≡ opened.qos
  pub partitions : without_states s.partitions ≡ without_states opened.partitions
  pub nodes : confs_of s.nodes ≡ confs_of opened.nodes

-- dropped nodes stand once each in byte order of their names, and none of them is there
pub record AreDropped (nodes : List NodeRecord) (dropped : List DroppedNode) : Type 0 where
  pub ordered : AllPairs (λ (one other : DroppedNode). IsNotBehind one.name other.name) dropped
  pub once : AllPairs (λ (one other : DroppedNode). one.name ≢ other.name) dropped
  pub absent : All (λ (node : DroppedNode). place_named node.name nodes ≡ None) dropped

-- nodes that are gone stand once each, and none of them is there
pub record AreGone (nodes : List NodeRecord) (gone : List (List ℕ)) : Type 0 where
  pub once : AllPairs (λ one other. one ≢ other) gone
  pub absent : All (λ name. place_named name nodes ≡ None) gone

-- a node is empty since it was set down only where it was set down and heard; it wasn't heard later than this
pub record Stands (moment : ℕ) (node : NodeRecord) : Type 0 where
  pub empty : node.empty ≡ true → (node.down ≡ Set) × (is_some node.heard ≡ true)
  pub heard : IfSome node.heard (λ heard. heard.moment ≤ moment)

-- the job's account is that of its association, and the name of its quality of service leads to that
pub record IsOfItsNames (s : State) (job : JobRecord) : Type 0 where
  pub account : job.terms.account ≡ account_at s.assocs job.assoc
  pub qos : qos_meant s.qos (Some job.terms.qos) ≡ Some job.qos

-- a job in this state has these moments of its last start and its end, or has none: a running one has a start and no
-- end, a completing one both, a pending one both or none
abbrev pub HasMoments : JobState → Option ℕ → Option ℕ → Type 0
HasMoments Pending started ended = is_some ended ≡ is_some started
HasMoments Running started ended = (is_some started ≡ true) × (is_none ended ≡ true)
HasMoments (Completing final) started ended = (is_some started ≡ true) × (is_some ended ≡ true)
HasMoments (Ended final) started ended = Unit {0}

-- the job's moments fit its state and how often it was started
pub record IsTimed (job : JobRecord) : Type 0 where
  pub eligible : job.eligible ≡ max job.submit (unwrap_or job.terms.begin 0)
  pub started : is_some job.started ≡ nat_lt 0 job.starts
  pub moments : HasMoments job.state job.started job.ended

-- a job by its numbers
pub record Numbers : Type 0 where
  pub id : ℕ
  pub array : Option ℕ
  pub index : Option ℕ
  pub at_once : Option ℕ

abbrev pub numbers_of : JobRecord → Numbers
numbers_of job = record { id = job.id; array = job.array; index = job.index; at_once = job.terms.at_once }

-- the job's number is that of a place in the array's list
abbrev pub is_numbered_in : ArrayRecord → Numbers → Bool
is_numbered_in array job = nat_le array.id job.id && nat_lt job.id (array.id + length array.indices)

-- the job is the array's task that stands at the place of its index
pub record IsTask (job : Numbers) (array : ArrayRecord) : Type 0 where
  pub of : job.array ≡ Some array.id
  pub within : is_numbered_in array job ≡ true
  pub index : (place : ℕ) → array.id + place ≡ job.id → slice_get array.indices place ≡ job.index

-- the job is none's
pub record IsAlone (job : Numbers) : Type 0 where
  pub array : is_none job.array ≡ true
  pub index : is_none job.index ≡ true
  pub at_once : is_none job.at_once ≡ true

-- the array's numbers end before the next one, and are its tasks', of which there are some
pub record HasTasks (next_id : ℕ) (jobs : List Numbers) (array : ArrayRecord) : Type 0 where
  pub indices : AreIndices array.indices
  pub next : array.id + length array.indices ≤ next_id
  pub some : Any (λ (job : Numbers). is_numbered_in array job ≡ true) jobs
  pub all : All (λ (job : Numbers). is_numbered_in array job ≡ true → job.array ≡ Some array.id) jobs

-- the arrays are those of which there are tasks, and each job is alone or a task of one of them
pub record AreNumbered (next_id : ℕ) (lists : List ArrayRecord) (numbers : List Numbers) : Type 0 where
  pub rising : AllPairs (λ (one other : ArrayRecord). one.id < other.id) lists
  pub arrays : All (HasTasks next_id numbers) lists
  pub jobs : All (λ (job : Numbers). IsAlone job ⊎ Any (IsTask job) lists) numbers

-- the reservation's nodes are those with its names, all of which are there, and its seconds are in their ranges
pub record IsReserved (nodes : List NodeRecord) (reservation : Reservation) : Type 0 where
  pub places : reservation.nodes ≡ places_among nodes reservation.names
  pub known : list_all (λ name. is_some (place_named name nodes)) reservation.names ≡ true
  pub start : reservation.start ≤ last_second
  pub end : reservation.end ≤ last_second

-- associations that are no user's have used nothing, and none more than the most
pub record OnlyUsersUse (assocs : List AssocRecord) (totals : List ℕ) : Type 0 where
  pub users : (k : ℕ) (assoc : AssocRecord) (total : ℕ) → slice_get assocs k ≡ Some assoc
      → slice_get totals k ≡ Some total → assoc.conf.user ≡ false → total ≡ 0
  pub most : All (λ total. total ≤ greatest_usage) totals

-- the placement is on so many nodes that there are
abbrev pub IsOnNodes : ℕ → Placed → Type 0
IsOnNodes count placed = All (λ (share : Share). share.node < count) placed.parts

-- What is kept of each state that a controller comes to, where two files open this state, beside what is sound.
pub record IsKept (opened s : State) : Type 0 where
  pub files : IsAsOpened opened s
  pub standing : All (Stands s.moment) s.nodes
  pub names : All (IsOfItsNames opened) s.jobs
  pub timed : All IsTimed s.jobs
  pub few : length s.jobs ≤ most_jobs
  pub numbered : AreNumbered s.next_id s.arrays (map numbers_of s.jobs)
  pub reserved : All (IsReserved opened.nodes) s.reservations
  pub used : OnlyUsersUse s.assocs s.usage
  pub dropped : AreDropped s.nodes s.dropped
  pub gone : AreGone s.nodes s.gone
  pub planned : All (IsOnNodes (length opened.nodes + length s.gone)) s.plan

-- The same where the slurm.conf in force and this association file open it, which are as their types keep them.
pub record IsKeptOver (file : AssocView) (s : State) : Type 0 where
  pub files : AreFiles (in_force s) file
  pub kept : IsKept (opening (in_force s) file) s
