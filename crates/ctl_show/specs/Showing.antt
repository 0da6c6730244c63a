-- What is shown of the state.
use Rattle.std.specs.Prelude.{ℕ, ◌+◌, ◌-◌, ◌*◌, ◌^◌, min, Bool, true, false, ◌&&◌, ◌||◌, not, nat_eq, is_none, if◌then◌else◌, unwrap_or, List, [], ◌∷◌, map, length, filter, filter_map, sum_by, find, slice_get, bytes_eq, Option, Some, None, option_map}
use Rattle.std.specs.List.{list_any}
use Rattle.plain_data.specs.declared.limit.Limit.{Limit}
use Rattle.plain_data.specs.declared.limit.Limit.TheVariants.{Minutes, Unlimited}
use Rattle.request_data.specs.declared.query.JobQuery.{JobQuery}
use Rattle.request_data.specs.declared.query.Query.{Query}
use Rattle.request_data.specs.declared.query.Query.TheVariants.{Squeue, Sinfo, Sprio, ShowJob, ShowNode, ShowPartition, ShowReservation}
use Rattle.request_data.specs.declared.query.StateCode.{StateCode}
use Rattle.request_data.specs.declared.query.StateCode.TheVariants as code
use Rattle.request_data.specs.declared.query.Who.{Who}
use Rattle.request_data.specs.declared.query.Who.TheVariants.{Anyone, Asker, User}
use Rattle.reply_data.specs.declared.refusal.Refusal.{Refusal}
use Rattle.reply_data.specs.declared.refusal.Refusal.TheVariants.{InvalidPartition, InvalidJobId, InvalidReservation, UnknownNode}
use Rattle.request_data.specs.declared.state.Final.TheVariants.{Completed, Cancelled, Failed, Timeout, NodeFail}
use Rattle.request_data.specs.declared.state.JobState.{JobState}
use Rattle.request_data.specs.declared.state.JobState.TheVariants.{Ended}
use Rattle.request_data.specs.declared.state.Reason.{Reason}
use Rattle.request_data.specs.declared.state.Reason.TheVariants as reason
use Rattle.request_data.specs.declared.target.Target.{Target}
use Rattle.reply_data.specs.declared.priority.PriorityRow.{PriorityRow}
use Rattle.reply_data.specs.declared.view.EndAt.{EndAt}
use Rattle.reply_data.specs.declared.view.EndAt.TheVariants.{Nothing, Unknown, At}
use Rattle.reply_data.specs.declared.view.JobRow.{JobRow}
use Rattle.reply_data.specs.declared.view.NamedPart.{NamedPart}
use Rattle.reply_data.specs.declared.view.Row.{Row}
use Rattle.reply_data.specs.declared.view.Row.TheVariants.{Job, Priority}
use Rattle.reply_data.specs.declared.view.View.{View}
use Rattle.backfill_planner.specs.declared.Placed.{Placed}
use Rattle.node_state.specs.declared.record.NodeRecord.{NodeRecord}
use Rattle.node_state.specs.Nodes.{place_named}
use Rattle.node_state.specs.declared.partition_record.PartRecord.{PartRecord}
use Rattle.node_state.specs.Partitions.{place_meant}
use Rattle.job_table.specs.declared.record.Part.{Part}
use Rattle.job_table.specs.declared.record.JobRecord.{JobRecord}
use Rattle.job_table.specs.JobStates.{is_pending, is_running, is_completing, is_ended, is_holding}
use Rattle.job_table.specs.Targets.{is_named}
use Rattle.node_state.specs.Reservations.{reservation_named}
use Rattle.ctl_state.specs.Planning.{names_of}
use Rattle.ctl_state.specs.Refusals.{refused_if}
use Rattle.ctl_state.specs.State.{State, partition_of}
use Rattle.ctl_waiting.specs.Priority.{parts_of}
use Rattle.ctl_waiting.specs.Rank.{priority_of}
use Rattle.ctl_waiting.specs.Reasons.{hindrance}
use Rattle.ctl_waiting.specs.Candidates.{candidates}
use Rattle.ctl_show.specs.Records.{node_rows, partition_rows, reservation_rows}
use Rattle.ctl_show.specs.Standing.{state_rows}

-- a job in this state has the code
abbrev pub has_code : StateCode → JobState → Bool
has_code code.Pending state = is_pending state
has_code code.Running state = is_running state
has_code code.Completing state = is_completing state
has_code code.Completed (Ended Completed) = true
has_code code.Cancelled (Ended Cancelled) = true
has_code code.Failed (Ended Failed) = true
has_code code.Timeout (Ended Timeout) = true
has_code code.NodeFail (Ended NodeFail) = true
has_code code state = false

-- the state is one of those that are asked for; where none are, the job hasn't ended
abbrev pub is_in : Option (List StateCode) → JobState → Bool
is_in None state = is_pending state || is_holding state
is_in (Some wanted) state = list_any (λ code. has_code code state) wanted

-- the job is of those whose jobs are asked for
abbrev pub is_of : Who → List ℕ → JobRecord → Bool
is_of Anyone asker job = true
is_of Asker asker job = bytes_eq job.user asker
is_of (User name) asker job = bytes_eq job.user name

-- one of the targets names the job, if there are any
abbrev pub is_among : Option (List Target) → JobRecord → Bool
is_among None job = true
is_among (Some targets) job = list_any (λ target. is_named target job) targets

-- the name of the job's partition
abbrev pub partition_name : State → JobRecord → List ℕ
partition_name s job = unwrap_or (option_map (λ (partition : PartRecord). partition.conf.name) (partition_of s job)) []

-- the job is of the partition that is asked for, if one is
abbrev pub is_there : State → Option (List ℕ) → JobRecord → Bool
is_there s None job = true
is_there s (Some name) job = bytes_eq (partition_name s job) name

-- expected starts are shown of pending jobs alone
abbrev pub may_be_shown : Bool → JobState → Bool
may_be_shown starts state = not starts || is_pending state

unfoldable pub is_shown : State → List ℕ → JobQuery → JobRecord → Bool
is_shown s asker query job =
    is_in query.states job.state && (may_be_shown query.starts job.state
    && (is_of query.who asker job && (is_there s query.partition job && is_among query.jobs job)))

-- the number of the candidate that is highest in rank
unfoldable pub highest : State → ℕ → Option ℕ
highest s now = option_map (λ (job : JobRecord). job.id) (slice_get (candidates s now) 0)

-- why a candidate waits: the highest in rank for what it needs, the others for those above them
abbrev pub reason_by_rank : Option ℕ → JobRecord → Reason
reason_by_rank None job = reason.Priority
reason_by_rank (Some id) job = if nat_eq id job.id then reason.Resources else reason.Priority

-- why a pending job waits at a moment
abbrev pub reason_of : State → ℕ → JobRecord → Reason
reason_of s now job = unwrap_or (hindrance s now job) (reason_by_rank (highest s now) job)

-- the second that the last plan gives a job
abbrev pub planned_start : List Placed → ℕ → Option ℕ
planned_start plan id =
    option_map (λ (placed : Placed). placed.start) (find (λ (placed : Placed). nat_eq placed.id id) plan)

-- how long a job runs at a moment since its start, or ran to its end; a pending one doesn't
abbrev pub since : Option ℕ → ℕ → ℕ
since None end = 0
since (Some start) end = end - start

abbrev pub elapsed_of : ℕ → JobRecord → ℕ
elapsed_of now job =
    if is_pending job.state then 0
    else (if is_ended job.state then since job.started (unwrap_or job.ended 0) else since job.started now)

-- how many nodes a job has, or needs at least; one that has ended had those of its last start
abbrev pub nodes_of : JobRecord → ℕ
nodes_of job =
    if is_pending job.state then job.terms.min_nodes
    else (if is_ended job.state then length job.last_nodes else length job.parts)

abbrev pub node_names : State → JobRecord → List (List ℕ)
node_names s job =
    if is_pending job.state then []
    else (if is_ended job.state then job.last_nodes else names_of s.nodes job.parts)

-- how many processors a job holds, as far as they are counted, or asks for
abbrev pub cpus_of : JobRecord → ℕ
cpus_of job =
    if is_pending job.state then job.terms.tasks * job.terms.cpus_per_task
    else min (sum_by (λ (part : Part). length part.cpus) job.parts) (2 ^ 64 - 1)

-- only pending jobs wait, and have a start that is planned
abbrev pub reason_shown : State → ℕ → JobRecord → Option Reason
reason_shown s now job = if is_pending job.state then Some (reason_of s now job) else None

abbrev pub start_shown : State → JobRecord → Option ℕ
start_shown s job = if is_pending job.state then planned_start s.plan job.id else job.started

-- a second as an end, if there is one
abbrev pub ended_at : Option ℕ → EndAt
ended_at None = Nothing
ended_at (Some end) = At end

-- when a job that started then reaches its limit, if it has one
abbrev pub limit_end : ℕ → Limit → EndAt
limit_end start (Minutes minutes) = At (start + minutes * 60)
limit_end start Unlimited = Unknown

-- a running job ends by its limit, and another ended when it left Running, or as a pending one was cancelled
unfoldable pub end_shown : JobRecord → EndAt
end_shown job = if is_running job.state then limit_end (unwrap_or job.started 0) job.limit else ended_at job.ended

-- what a part holds, of a node by its name
abbrev pub part_by : Part → NodeRecord → NamedPart
part_by part node = record { node = node.conf.name; cpus = part.cpus; mem = part.mem }

-- the parts, each of its node by its name
unfoldable pub named_parts : List NodeRecord → List Part → List NamedPart
named_parts nodes parts = filter_map (λ (part : Part). option_map (part_by part) (slice_get nodes part.node)) parts

-- What is shown of a job.
unfoldable pub row_of : State → ℕ → JobRecord → JobRow
row_of s now job = record {
  id = job.id;
  array = job.array;
  index = job.index;
  name = job.terms.name;
  user = job.user;
  account = job.terms.account;
  partition = partition_name s job;
  qos = job.terms.qos;
  state = job.state;
  elapsed = elapsed_of now job;
  nodes = nodes_of job;
  node_names = node_names s job;
  reason = reason_shown s now job;
  start = start_shown s job;
  priority = priority_of s now job;
  limit = job.limit;
  cpus = cpus_of job;
  tasks = job.terms.tasks;
  nice = job.nice;
  dependency = job.terms.dependency;
  requeue = job.terms.requeue;
  restarts = job.starts - 1;
  exit = job.exit;
  submit = job.submit;
  eligible = job.eligible;
  end = end_shown job;
  parts = named_parts s.nodes job.parts;
}

-- the rows of jobs, in the order of their numbers
abbrev pub job_rows : State → ℕ → List ℕ → JobQuery → List Row
job_rows s now asker query = map (λ job. Job (row_of s now job)) (filter (is_shown s asker query) s.jobs)

-- the target names the job, if there is one
abbrev pub is_meant : Option Target → JobRecord → Bool
is_meant None job = true
is_meant (Some target) job = is_named target job

-- the rows of the jobs that are meant, in every state, in the order of their numbers
abbrev pub kept_rows : State → ℕ → Option Target → List Row
kept_rows s now target = map (λ job. Job (row_of s now job)) (filter (is_meant target) s.jobs)

-- sprio shows pending jobs alone
unfoldable pub is_weighed : List ℕ → Who → Option (List Target) → JobRecord → Bool
is_weighed asker who jobs job = is_pending job.state && (is_of who asker job && is_among jobs job)

-- what is shown of a job's priority
unfoldable pub priority_row_of : State → ℕ → JobRecord → PriorityRow
priority_row_of s now job = record {
  id = job.id;
  array = job.array;
  index = job.index;
  partition = partition_name s job;
  user = job.user;
  parts = parts_of s now job;
}

-- the rows of priorities, in the order of the jobs' numbers
abbrev pub priority_rows : State → ℕ → List ℕ → Who → Option (List Target) → List Row
priority_rows s now asker who jobs =
    map (λ job. Priority (priority_row_of s now job)) (filter (is_weighed asker who jobs) s.jobs)

-- the rows that a user's query shows at a moment
abbrev pub rows_of : State → ℕ → List ℕ → Query → List Row
rows_of s now asker (Squeue query) = job_rows s now asker query
rows_of s now asker (Sinfo partition titles) = state_rows s partition
rows_of s now asker (Sprio who jobs titles) = priority_rows s now asker who jobs
rows_of s now asker (ShowJob target) = kept_rows s now target
rows_of s now asker (ShowNode name) = node_rows s name
rows_of s now asker (ShowPartition name) = partition_rows s name
rows_of s now asker (ShowReservation name) = reservation_rows s name

-- what a user's query shows at a moment
unfoldable pub view_of : State → ℕ → List ℕ → Query → View
view_of s now asker query = record { rows = rows_of s now asker query }

-- a target names no job
abbrev pub names_nothing : List JobRecord → Option (List Target) → Bool
names_nothing jobs None = false
names_nothing jobs (Some targets) = list_any (λ target. not (list_any (is_named target) jobs)) targets

-- the target names no job, if there is one
abbrev pub means_nothing : List JobRecord → Option Target → Bool
means_nothing jobs None = false
means_nothing jobs (Some target) = not (list_any (is_named target) jobs)

-- the partition that is asked for isn't there
abbrev pub is_unknown : State → Option (List ℕ) → Bool
is_unknown s None = false
is_unknown s (Some name) = is_none (place_meant (Some name) s.partitions)

-- the node that is asked for isn't there
abbrev pub is_no_node : State → Option (List ℕ) → Bool
is_no_node s None = false
is_no_node s (Some name) = is_none (place_named name s.nodes)

-- the reservation that is asked for isn't there
abbrev pub is_no_reservation : State → Option (List ℕ) → Bool
is_no_reservation s None = false
is_no_reservation s (Some name) = is_none (reservation_named name s.reservations)

-- why a query may be refused, in their order: it names a job, a partition, a node or a reservation that there isn't
abbrev pub show_refusals : State → Query → List (Option Refusal)
show_refusals s (Squeue query) =
    refused_if (names_nothing s.jobs query.jobs) InvalidJobId
    ∷ refused_if (is_unknown s query.partition) InvalidPartition
    ∷ []
show_refusals s (Sinfo partition titles) = refused_if (is_unknown s partition) InvalidPartition ∷ []
show_refusals s (Sprio who jobs titles) = refused_if (names_nothing s.jobs jobs) InvalidJobId ∷ []
show_refusals s (ShowJob target) = refused_if (means_nothing s.jobs target) InvalidJobId ∷ []
show_refusals s (ShowNode name) = refused_if (is_no_node s name) UnknownNode ∷ []
show_refusals s (ShowPartition name) = refused_if (is_unknown s name) InvalidPartition ∷ []
show_refusals s (ShowReservation name) = refused_if (is_no_reservation s name) InvalidReservation ∷ []
