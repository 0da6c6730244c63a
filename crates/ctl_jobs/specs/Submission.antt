-- A submission: its refusals, and the jobs that it makes.
use Rattle.std.specs.Prelude.{◌≡◌, ◌≤◌, ℕ, ◌+◌, min, max, Bool, true, false, ◌&&◌, ◌||◌, not, nat_eq, is_none, is_some, nat_le, nat_lt, if◌then◌else◌, unwrap_or, List, [], ◌∷◌, ◌++◌, length, map, filter, count_by, slice_get, bytes_eq, codes, All, Option, Some, None, option_map, option_and_then, Result, Ok, Err}
use Rattle.std.specs.List.{list_any, enumerate_from}
use Rattle.std.specs.Option.{option_or, option_to_list}
use Rattle.plain_data.specs.declared.array.ArraySpec.{ArraySpec}
use Rattle.plain_data.specs.declared.conf.PartState.{PartState}
use Rattle.plain_data.specs.declared.conf.PartState.TheVariants.{Up, Down, Drain, Inactive}
use Rattle.plain_data.specs.declared.dependency.DepId.{DepId}
use Rattle.plain_data.specs.declared.dependency.DepItem.{DepItem}
use Rattle.plain_data.specs.declared.dependency.DepKind.{DepKind}
use Rattle.plain_data.specs.declared.dependency.DepKind.TheVariants as kind
use Rattle.plain_data.specs.declared.dependency.DepSpec.{DepSpec}
use Rattle.plain_data.specs.declared.job.JobDesc.{JobDesc}
use Rattle.plain_data.specs.declared.limit.Limit.{Limit}
use Rattle.plain_data.specs.declared.mem_ask.MemAsk.{MemAsk}
use Rattle.plain_data.specs.declared.mem_ask.MemAsk.TheVariants as memory
use Rattle.plain_data.specs.declared.nice.Nice.{Nice}
use Rattle.plain_data.specs.declared.nice.Nice.TheVariants.{Lower, Raise}
use Rattle.request_data.specs.declared.state.HeldBy.{HeldBy}
use Rattle.request_data.specs.declared.state.HeldBy.TheVariants.{Nobody, User}
use Rattle.request_data.specs.declared.state.JobState.TheVariants.{Pending}
use Rattle.reply_data.specs.declared.refusal.Refusal.{Refusal}
use Rattle.reply_data.specs.declared.refusal.Refusal.TheVariants.{AccessDenied, PartitionClosed, InvalidAccount, InvalidPartition, InvalidQos, NodesNotAvailable, NotAllowedHere, JobTableFull, ArrayTooLarge, UnknownNode, BadDependency, InvalidReservation, JobIdsSpent}
use Rattle.reply_data.specs.declared.reply.Reply.TheVariants.{Submitted}
use Rattle.backfill_planner.specs.Plans.{placed_of}
use Rattle.node_state.specs.Nodes.{place_named}
use Rattle.node_state.specs.declared.partition_record.PartRecord.{PartRecord}
use Rattle.node_state.specs.Partitions
use Rattle.run_limits.specs.declared.record.AssocRecord.{AssocRecord}
use Rattle.run_limits.specs.Accounts.{account_of, place_meant, qos_meant}
use Rattle.run_limits.specs.declared.counted.Counted.{Counted}
use Rattle.run_limits.specs.declared.counted.Group.{Group}
use Rattle.run_limits.specs.Counting.{is_in}
use Rattle.run_limits.specs.Limits.{Beside}
use Rattle.run_limits.specs.Submitting.{submit_limits}
use Rattle.job_table.specs.declared.record.JobRecord.{JobRecord}
use Rattle.job_table.specs.declared.terms.Terms.{Terms}
use Rattle.job_table.specs.JobStates.{is_ended}
use Rattle.job_table.specs.Table.{HaveRisingIds}
use Rattle.job_table.specs.Targets.{is_named_by}
use Rattle.node_state.specs.declared.reservation_record.Reservation.{Reservation}
use Rattle.node_state.specs.Reservations.{may_use, reservation_named}
use Rattle.ctl_state.specs.declared.record.ArrayRecord.{ArrayRecord}
use Rattle.ctl_state.specs.Counted.{counted_of}
use Rattle.ctl_state.specs.Planning.{open_room, places_for, plan_job}
use Rattle.ctl_state.specs.Refusals.{first_refusal, is_privileged, refused_if}
use Rattle.ctl_state.specs.State.{State, last_job_id}
use Rattle.ctl_state.specs.Verdicts.{Verdict, Refuses, Makes}
use Rattle.ctl_jobs.specs.declared.handed.Handed.{Handed}

-- the place of the association that a submission counts for, and that of its quality of service
abbrev pub assoc_for : State → List ℕ → JobDesc → Option ℕ
assoc_for s user desc = place_meant s.assocs user desc.account

abbrev pub qos_for : State → JobDesc → Option ℕ
qos_for s desc = qos_meant s.qos desc.qos

-- the name of its quality of service
abbrev pub quality_of : JobDesc → List ℕ
quality_of desc = unwrap_or desc.qos (codes "normal")

-- the account of the association at a place
abbrev pub account_at : List AssocRecord → ℕ → List ℕ
account_at assocs place = unwrap_or (option_map (account_of assocs) (slice_get assocs place)) (codes "root")

-- the place of the partition that a submission means, and the partition
abbrev pub place_for : State → JobDesc → Option ℕ
place_for s desc = Partitions.place_meant desc.partition s.partitions

abbrev pub partition_for : State → JobDesc → Option PartRecord
partition_for s desc = option_and_then (slice_get s.partitions) (place_for s desc)

-- a partition that takes no jobs
abbrev pub is_closed : PartState → Bool
is_closed Up = false
is_closed Down = false
is_closed Drain = true
is_closed Inactive = true

-- the partition that is meant takes no jobs
abbrev pub takes_none : Option PartRecord → Bool
takes_none None = false
takes_none (Some partition) = is_closed partition.state

-- a partition takes jobs of this name, as one of these that it takes
abbrev pub takes : Option (List (List ℕ)) → List ℕ → Bool
takes None name = true
takes (Some names) name = list_any (bytes_eq name) names

-- the partition takes jobs of the account and of the quality of service
abbrev pub takes_jobs_of : PartRecord → List ℕ → List ℕ → Bool
takes_jobs_of partition account quality = takes partition.conf.accounts account && takes partition.conf.qos quality

-- the limit in force: the one asked for, or the partition's default, or its longest
abbrev pub limit_in : PartRecord → JobDesc → Limit
limit_in partition desc = unwrap_or (option_or desc.limit partition.conf.default_time) partition.conf.max_time

-- the memory in force: the one asked for, or the partition's default, or the general one, or all of each node
abbrev pub memory_in : State → PartRecord → JobDesc → MemAsk
memory_in s partition desc =
    unwrap_or (option_or (option_or desc.mem_ask partition.conf.mem_default) s.settings.mem_default) memory.All

-- What a submission is settled with: its account, the places of its association, its quality of service and its
-- partition, and the partition.
pub record Basis : Type 0 where
  pub account : List ℕ
  pub assoc : ℕ
  pub qos : ℕ
  pub place : ℕ
  pub partition : PartRecord

-- how many tasks of its array a job may have hold processors at once
abbrev pub at_once_of : JobDesc → Option ℕ
at_once_of desc = option_and_then (λ (array : ArraySpec). array.most) desc.array

-- what is settled for the jobs that a submission makes
abbrev pub settled : State → Basis → JobDesc → Terms
settled s basis desc = record {
  name = desc.name;
  account = basis.account;
  qos = quality_of desc;
  reservation = desc.reservation;
  tasks = desc.tasks;
  cpus_per_task = desc.cpus_per_task;
  tasks_per_node = desc.tasks_per_node;
  min_nodes = desc.min_nodes;
  max_nodes = desc.max_nodes;
  mem = memory_in s basis.partition desc;
  exclusive = desc.exclusive;
  begin = desc.begin;
  requeue = unwrap_or desc.requeue s.settings.job_requeue;
  features = desc.features;
  required = desc.required;
  excluded = desc.excluded;
  at_once = at_once_of desc;
  dependency = desc.dependency;
  run = desc.run;
  exit = desc.exit;
}

-- who holds a job back that is handed in
abbrev pub held_at_first : JobDesc → HeldBy
held_at_first desc = if desc.held then User else Nobody

-- the job with this number that a submission makes on these terms, the task with this index of the array with that
-- number
abbrev pub job_on : Terms → ℕ → List ℕ → JobDesc → Basis → ℕ → Option ℕ → Option ℕ → JobRecord
job_on terms moment user desc basis id array index = record {
  id = id;
  array = array;
  index = index;
  user = user;
  terms = terms;
  assoc = basis.assoc;
  qos = basis.qos;
  partition = basis.place;
  submit = moment;
  eligible = max moment (unwrap_or desc.begin 0);
  limit = limit_in basis.partition desc;
  nice = desc.nice;
  held_by = held_at_first desc;
  state = Pending;
  starts = 0;
  parts = [];
  started = None;
  ended = None;
  exit = None;
  last_nodes = [];
}

-- the same, on the terms that are settled for it
abbrev pub new_job : State → ℕ → List ℕ → JobDesc → Basis → ℕ → Option ℕ → Option ℕ → JobRecord
new_job s moment user desc basis id array index = job_on (settled s basis desc) moment user desc basis id array index

-- the job that a submission makes that is no array
abbrev pub lone_job : State → ℕ → List ℕ → JobDesc → Basis → JobRecord
lone_job s moment user desc basis = new_job s moment user desc basis s.next_id None None

-- a task of an array, by its place among the indices and its index
abbrev pub task : State → ℕ → List ℕ → JobDesc → Basis → ℕ × ℕ → JobRecord
task s moment user desc basis (place, index) =
    new_job s moment user desc basis (s.next_id + place) (Some s.next_id) (Some index)

-- the jobs that a submission makes: one, or the tasks of its array in the order of their indices
unfoldable pub new_jobs : State → ℕ → List ℕ → JobDesc → Basis → Option ArraySpec → List JobRecord
new_jobs s moment user desc basis None = lone_job s moment user desc basis ∷ []
new_jobs s moment user desc basis (Some array) =
    map (task s moment user desc basis) (enumerate_from 0 array.indices)

-- how many there are
abbrev pub count_of_jobs : Option ArraySpec → ℕ
count_of_jobs None = 1
count_of_jobs (Some array) = length array.indices

-- the index list that is kept of an array
abbrev pub new_arrays : State → Option ArraySpec → List ArrayRecord
new_arrays s None = []
new_arrays s (Some array) = record { id = s.next_id; indices = array.indices } ∷ []

-- how many nodes a job may have by itself, whatever its partition asks for and allows
abbrev pub own_bounds : Terms → ℕ × ℕ
own_bounds terms = (terms.min_nodes, min terms.tasks (unwrap_or terms.max_nodes terms.tasks))

-- some nodes of the partition could run the job if all were free and available, those of its reservation if it names
-- one, at whatever time; one second is as good as any
unfoldable pub is_placeable : State → PartRecord → JobRecord → Bool
is_placeable s partition job =
    let places = places_for s.nodes s.reservations partition job.terms.reservation in
    let need = plan_job s.nodes partition places [] (own_bounds job.terms) job in
    is_some (placed_of (map open_room s.nodes) [] need 0 0)

-- the nice value is negative
abbrev pub is_negative : Nice → Bool
is_negative (Lower by) = false
is_negative (Raise by) = true

-- the user asks for a nice value that only root and SlurmUser may ask for
abbrev pub may_not_raise : State → List ℕ → JobDesc → Bool
may_not_raise s user desc = is_negative desc.nice && not (is_privileged s user)

-- the reservation, if there is one, is for the user and his account
abbrev pub is_for : List ℕ → List ℕ → Option Reservation → Bool
is_for user account None = false
is_for user account (Some reservation) = may_use user account reservation

-- the user names a reservation that there isn't, or that he may not use
abbrev pub may_not_use : State → List ℕ → List ℕ → JobDesc → Bool
may_not_use s user account desc =
    unwrap_or
    (option_map (λ name. not (is_for user account (reservation_named name s.reservations))) desc.reservation)
    false

-- a node that is named isn't there
abbrev pub names_unknown : State → JobDesc → Bool
names_unknown s desc = list_any (λ name. is_none (place_named name s.nodes)) (desc.required ++ desc.excluded)

-- an index of the array is MaxArraySize or more
abbrev pub is_too_large : State → Option ArraySpec → Bool
is_too_large s None = false
is_too_large s (Some array) = list_any (nat_le s.settings.max_array_size) array.indices

-- a dependency of this kind waits for the tasks that have the indices of those that are handed in
abbrev pub is_by_index : DepKind → Bool
is_by_index kind.AfterCorr = true
is_by_index kind.After = false
is_by_index kind.AfterAny = false
is_by_index kind.AfterOk = false
is_by_index kind.AfterNotOk = false
is_by_index kind.Singleton = false

-- the array with this number was handed in with these indices
abbrev pub has_indices : List ArrayRecord → ℕ → List ℕ → Bool
has_indices arrays id indices =
    list_any (λ (array : ArrayRecord). nat_eq array.id id && bytes_eq array.indices indices) arrays

-- each task of the array that is handed in has one of its index to wait for
abbrev pub corresponds : List ArrayRecord → Option ArraySpec → DepId → Bool
corresponds arrays array id =
    is_none id.index
    && unwrap_or (option_map (λ (one : ArraySpec). has_indices arrays id.id one.indices) array) false

-- the number names no job, or an array that has other tasks
abbrev pub is_bad_number : State → Option ArraySpec → DepKind → DepId → Bool
is_bad_number s array kind id =
    not (list_any (is_named_by id.id id.index) s.jobs) || (is_by_index kind && not (corresponds s.arrays array id))

-- a number of the dependency is such
abbrev pub is_bad_dependency : State → Option ArraySpec → Option DepSpec → Bool
is_bad_dependency s array None = false
is_bad_dependency s array (Some spec) =
    list_any (λ (item : DepItem). list_any (is_bad_number s array item.kind) item.ids) spec.items

-- the jobs that haven't ended, as limits count them
unfoldable pub unended : List JobRecord → List Counted
unended jobs = map counted_of (filter (λ (job : JobRecord). not (is_ended job.state)) jobs)

-- how many of the jobs of a group haven't ended
unfoldable pub jobs_unended : List AssocRecord → List JobRecord → Group → ℕ
jobs_unended assocs jobs group =
    count_by (λ (job : JobRecord). not (is_ended job.state) && is_in assocs group (counted_of job)) jobs

-- what a submission is counted beside
abbrev pub beside_unended : State → Beside
beside_unended s = record { assocs = s.assocs; qos = s.qos; holding = unended s.jobs }

-- why there may be no room for so many jobs, in their order
abbrev pub refusals_of_room : State → ℕ → List (Option Refusal)
refusals_of_room s count =
    refused_if (nat_lt s.settings.max_job_count (length s.jobs + count)) JobTableFull
    ∷ refused_if (nat_lt (last_job_id + 1) (s.next_id + count)) JobIdsSpent
    ∷ []

-- why as many jobs of which this is one may be refused, in their order
abbrev pub refusals_of_count : State → JobRecord → Option ArraySpec → List (Option Refusal)
refusals_of_count s job array =
    refused_if (is_too_large s array) ArrayTooLarge
    ∷ (refused_if (is_bad_dependency s array job.terms.dependency) BadDependency
    ∷ (submit_limits (beside_unended s) (counted_of job) (count_of_jobs array)
    ++ refusals_of_room s (count_of_jobs array)))

-- why a submission may be refused under its basis, in their order
abbrev pub refusals_under : State → ℕ → List ℕ → JobDesc → Basis → List (Option Refusal)
refusals_under s moment user desc basis =
    refused_if (not (takes_jobs_of basis.partition basis.account (quality_of desc))) NotAllowedHere
    ∷ refused_if (may_not_use s user basis.account desc) InvalidReservation
    ∷ refused_if (may_not_raise s user desc) AccessDenied
    ∷ refused_if (names_unknown s desc) UnknownNode
    ∷ refused_if (not (is_placeable s basis.partition (lone_job s moment user desc basis))) NodesNotAvailable
    ∷ refusals_of_count s (lone_job s moment user desc basis) desc.array

-- the basis of a submission, for the association at a place, in the quality of service at one, to the partition at one
abbrev pub basis_by : State → Option ℕ → Option ℕ → Option ℕ → Option PartRecord → Option Basis
basis_by s (Some assoc) (Some qos) (Some place) (Some partition) = Some (record {
  account = account_at s.assocs assoc;
  assoc = assoc;
  qos = qos;
  place = place;
  partition = partition;
})
basis_by s assoc qos place partition = None

unfoldable pub basis_of : State → List ℕ → JobDesc → Option Basis
basis_of s user desc = basis_by s (assoc_for s user desc) (qos_for s desc) (place_for s desc) (partition_for s desc)

abbrev pub refusals_by : State → ℕ → List ℕ → JobDesc → Option Basis → List (Option Refusal)
refusals_by s moment user desc None = []
refusals_by s moment user desc (Some basis) = refusals_under s moment user desc basis

-- why a submission may be refused, in their order
abbrev pub submit_refusals : State → ℕ → List ℕ → JobDesc → List (Option Refusal)
submit_refusals s moment user desc =
    refused_if (is_none (assoc_for s user desc)) InvalidAccount
    ∷ refused_if (is_none (partition_for s desc)) InvalidPartition
    ∷ refused_if (takes_none (partition_for s desc)) PartitionClosed
    ∷ refused_if (is_none (qos_for s desc)) InvalidQos
    ∷ refusals_by s moment user desc (basis_of s user desc)

-- the state with these jobs
abbrev pub submit_after : State → List JobRecord → List ArrayRecord → State
submit_after s jobs arrays = record s {
  jobs = s.jobs ++ jobs;
  arrays = s.arrays ++ arrays;
  next_id = s.next_id + length jobs;
}

-- what an accepted submission makes
abbrev pub made_under : State → ℕ → List ℕ → JobDesc → Option Basis → Verdict
made_under s moment user desc None = Refuses InvalidPartition
made_under s moment user desc (Some basis) =
    Makes (Submitted s.next_id)
    (submit_after s (new_jobs s moment user desc basis desc.array) (new_arrays s desc.array))

abbrev pub submit_made : State → ℕ → List ℕ → JobDesc → Verdict
submit_made s moment user desc = made_under s moment user desc (basis_of s user desc)

-- the jobs can be added: their numbers follow the last one, they hold nothing, and there is room for them
pub record CanAdd (s : State) (jobs : List JobRecord) : Type 0 where
  pub rising : HaveRisingIds jobs
  pub above : All (λ (job : JobRecord). s.next_id ≤ job.id) jobs
  pub nothing : All (λ (job : JobRecord). job.parts ≡ []) jobs
  pub room : length s.jobs + length jobs ≤ s.settings.max_job_count
  pub numbers : s.next_id + length jobs ≤ last_job_id + 1

-- a submission is refused for its first refusal, or makes these jobs
abbrev pub IsDecided : State → ℕ → List ℕ → JobDesc → Result Handed Refusal → Type 0
IsDecided s moment user desc (Err refusal) = first_refusal (submit_refusals s moment user desc) ≡ Some refusal
IsDecided s moment user desc (Ok handed) =
    (first_refusal (submit_refusals s moment user desc) ≡ None)
    × (submit_made s moment user desc
    ≡ Makes (Submitted s.next_id) (submit_after s handed.jobs.items (option_to_list handed.array)))
    × CanAdd s handed.jobs.items
