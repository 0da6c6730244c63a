-- What every state keeps.
use Rattle.std.specs.Prelude.{◌≡◌, ◌≢◌, ℕ, ◌+◌, ◌<◌, ◌≤◌, Bool, true, false, ◌||◌, is_some, IfSome, unwrap_or, List, length, map, filter, slice_get, All, AllPairs, Contains, Some, option_map}
use Rattle.plain_data.specs.declared.limit.Limit.{Limit}
use Rattle.plain_data.specs.declared.limit.Limit.TheVariants.{Minutes, Unlimited}
use Rattle.plain_data.specs.declared.conf.Settings.{Settings}
use Rattle.plain_data.specs.declared.job.JobDesc.{JobDesc}
use Rattle.request_data.specs.declared.state.JobState.TheVariants.{Ended}
use Rattle.request_data.specs.declared.state.Final.TheVariants.{Requeue}
use Rattle.backfill_planner.specs.declared.Placed.{Placed}
use Rattle.node_state.specs.declared.record.NodeRecord.{NodeRecord}
use Rattle.node_state.specs.Nodes.{AreNamedOnce, is_up}
use Rattle.node_state.specs.declared.partition_record.PartRecord.{PartRecord}
use Rattle.node_state.specs.Partitions.{IsOnNodes}
use Rattle.job_table.specs.declared.record.Part.{Part}
use Rattle.job_table.specs.declared.record.JobRecord.{JobRecord}
use Rattle.job_table.specs.declared.terms.Terms.{Terms}
use Rattle.run_limits.specs.declared.record.AssocRecord.{AssocRecord}
use Rattle.run_limits.specs.declared.record.QosRecord.{QosRecord}
use Rattle.run_limits.specs.Accounts.{is_of_user}
use Rattle.node_state.specs.Reservations.{AreReservations}
use Rattle.ctl_state.specs.State.{State, last_job_id, last_moment, last_second, last_size, shutdown_size}
use Rattle.job_table.specs.Table.{HaveRisingIds}
use Rattle.job_table.specs.Targets.{AreTogether}
use Rattle.job_table.specs.JobStates.{is_pending, is_completing, is_ended, is_holding}
use Rattle.ctl_state.specs.Holding.{IsHeldOnce, OnNodesApart, has_members, parts_of}
use Rattle.ctl_state.specs.Planning.{is_at, room_of}

-- a limit is a minute at least, and at most a hundred years; or none
abbrev pub IsLimit : Limit → Type 0
IsLimit (Minutes minutes) = (1 ≤ minutes) × (minutes ≤ 52560000)
IsLimit Unlimited = Unit {0}

-- the settings are in their ranges
pub record HasRanges (settings : Settings) : Type 0 where
  pub window : (1 ≤ settings.bf_window) × (settings.bf_window ≤ 43200)
  pub age : settings.min_job_age ≤ 65533

-- the node is in its ranges
pub record IsNode (node : NodeRecord) : Type 0 where
  pub cpus : (1 ≤ node.conf.cpus) × (node.conf.cpus ≤ 1024)
  pub mem : (1 ≤ node.conf.mem) × (node.conf.mem ≤ 16777216)

-- what a submission asks for is in its ranges
pub record IsAsked (desc : JobDesc) : Type 0 where
  pub tasks : (1 ≤ desc.tasks) × (desc.tasks ≤ 1048576)
  pub cpus : (1 ≤ desc.cpus_per_task) × (desc.cpus_per_task ≤ 1024)
  pub run : (1 ≤ desc.run) × (desc.run ≤ 2000000000)
  pub exit : desc.exit ≤ 255
  pub begin : unwrap_or desc.begin 0 ≤ last_moment

-- what is settled for a job is in its ranges
pub record IsSettled (terms : Terms) : Type 0 where
  pub tasks : (1 ≤ terms.tasks) × (terms.tasks ≤ 1048576)
  pub cpus : (1 ≤ terms.cpus_per_task) × (terms.cpus_per_task ≤ 1024)
  pub run : (1 ≤ terms.run) × (terms.run ≤ 2000000000)
  pub exit : terms.exit ≤ 255
  pub begin : unwrap_or terms.begin 0 ≤ last_moment

-- The job's times fit its state: what runs or completes has a start, what has left Running has an end, none comes
-- before the other or lies ahead.
pub record IsWellRun (moment : ℕ) (job : JobRecord) : Type 0 where
  pub submitted : job.submit ≤ moment
  pub eligible : job.eligible ≤ last_moment
  pub started : is_holding job.state ≡ true → is_some job.started ≡ true
  pub ended : (is_completing job.state || is_ended job.state) ≡ true → is_some job.ended ≡ true
  pub start_passed : unwrap_or job.started 0 ≤ moment
  pub end_passed : unwrap_or job.ended 0 ≤ moment
  pub in_order : is_some job.ended ≡ true → unwrap_or job.started 0 ≤ unwrap_or job.ended 0
  pub final : job.state ≢ Ended Requeue

-- only running and completing jobs have parts, and these have one at least; a job has at most one part on a node
pub record HasItsParts (job : JobRecord) : Type 0 where
  pub some : has_members job.parts ≡ is_holding job.state
  pub apart : OnNodesApart job.parts

-- what is kept of each job by itself
pub record IsKept (moment : ℕ) (job : JobRecord) : Type 0 where
  pub terms : IsSettled job.terms
  pub limit : IsLimit job.limit
  pub run : IsWellRun moment job
  pub parts : HasItsParts job

-- the numbers of the pending jobs
abbrev pub pending_ids : List JobRecord → List ℕ
pending_ids jobs = map (λ (job : JobRecord). job.id) (filter (λ (job : JobRecord). is_pending job.state) jobs)

-- the plan names pending jobs alone, each at most once, and no second after the last one that can be printed
pub record PlansPending (jobs : List JobRecord) (plan : List Placed) : Type 0 where
  pub pending : All (λ (placed : Placed). Contains (pending_ids jobs) placed.id) plan
  pub once : AllPairs (λ (one other : Placed). one.id ≢ other.id) plan
  pub last : All (λ (placed : Placed). placed.start ≤ last_second) plan

-- there are at most 1,024 nodes, each in its ranges and named once
pub record AreNodes (nodes : List NodeRecord) : Type 0 where
  pub named : AreNamedOnce nodes
  pub each : All IsNode nodes

-- the node at the place is there, and isn't down
abbrev pub is_up_at : List NodeRecord → ℕ → Bool
is_up_at nodes place = is_at (λ (node : NodeRecord). is_up node.down) nodes place

-- nothing is held of nodes that are down
abbrev pub AreUp : List NodeRecord → List Part → Type 0
AreUp nodes parts = All (λ (part : Part). is_up_at nodes part.node ≡ true) parts

-- the partition's limits are in their ranges
pub record HasLimits (partition : PartRecord) : Type 0 where
  pub longest : IsLimit partition.conf.max_time
  pub unasked : IfSome partition.conf.default_time IsLimit

-- each job is of a partition that there is
abbrev pub AreOfPartitions : List PartRecord → List JobRecord → Type 0
AreOfPartitions partitions jobs = All (λ (job : JobRecord). job.partition < length partitions) jobs

-- the job's association is of its user, and there is its quality of service
pub record IsOfAccounts (assocs : List AssocRecord) (qualities : List QosRecord) (job : JobRecord) : Type 0 where
  pub assoc : option_map (is_of_user job.user) (slice_get assocs job.assoc) ≡ Some true
  pub qos : job.qos < length qualities

pub record IsSound (s : State) : Type 0 where
  pub settings : HasRanges s.settings
  pub nodes : AreNodes s.nodes
  pub partitions : All (IsOnNodes (length s.nodes)) s.partitions
  pub limits : All HasLimits s.partitions
  pub of_partitions : AreOfPartitions s.partitions s.jobs
  pub of_accounts : All (IsOfAccounts s.assocs s.qos) s.jobs
  -- what is used is counted for each association
  pub usage : length s.usage ≡ length s.assocs
  pub reservations : AreReservations s.reservations
  -- the numbers of the jobs rise, and are below the next one
  pub rising : HaveRisingIds s.jobs
  pub below_next : All (λ (job : JobRecord). job.id < s.next_id) s.jobs
  pub together : AreTogether s.jobs
  pub next : s.next_id ≤ last_job_id + 1
  -- only a shutdown may lead past the greatest sum of sizes
  pub size : s.size ≤ last_size + shutdown_size
  pub accepts : s.is_shut ≡ false → s.size ≤ last_size
  pub moment : s.moment ≤ last_moment
  pub jobs : All (IsKept s.moment) s.jobs
  pub held : IsHeldOnce (map room_of s.nodes) (parts_of s.jobs)
  pub up : AreUp s.nodes (parts_of s.jobs)
  pub plan : PlansPending s.jobs s.plan
