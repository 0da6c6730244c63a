-- Why a pending job can't be planned.
use Rattle.std.specs.Prelude.{ℕ, Bool, true, false, not, nat_lt, is_none, unwrap_or, List, [], ◌∷◌, ◌++◌, max, nat_le, Option, Some, None, option_map}
use Rattle.std.specs.List.{list_any}
use Rattle.plain_data.specs.declared.conf.PartState.{PartState}
use Rattle.plain_data.specs.declared.conf.PartState.TheVariants.{Up, Down, Drain, Inactive}
use Rattle.plain_data.specs.declared.limit.Limit.{Limit}
use Rattle.request_data.specs.declared.state.Reason.{Reason}
use Rattle.request_data.specs.declared.state.Reason.TheVariants.{JobHeldAdmin, JobHeldUser, DependencyNeverSatisfied, Dependency, BeginTime, PartitionInactive, PartitionDown, PartitionTimeLimit, PartitionNodeLimit, QosMaxWallDurationPerJobLimit, Reservation, ReqNodeNotAvail}
use Rattle.request_data.specs.declared.state.HeldBy.{HeldBy}
use Rattle.request_data.specs.declared.state.HeldBy.TheVariants as held
use Rattle.node_state.specs.declared.partition_record.PartRecord.{PartRecord}
use Rattle.job_table.specs.declared.record.JobRecord.{JobRecord}
use Rattle.node_state.specs.declared.record.NodeRecord.{NodeRecord}
use Rattle.node_state.specs.Nodes.{is_available, place_named}
use Rattle.run_limits.specs.Accounts.{qos_limits_at}
use Rattle.run_limits.specs.Limits.{first_reason, limits_reached, reason_if}
use Rattle.job_table.specs.declared.standing.Standing.{Standing}
use Rattle.job_table.specs.declared.standing.Standing.TheVariants.{Satisfied, Waiting, Never}
use Rattle.job_table.specs.Standing.{standing}
use Rattle.node_state.specs.declared.reservation_record.Reservation.{Reservation as Kept}
use Rattle.node_state.specs.Reservations.{lasting, reservation_named}
use Rattle.ctl_state.specs.Counted.{beside, counted_of}
use Rattle.ctl_state.specs.Holds.{limit_end}
use Rattle.ctl_state.specs.Limits.{exceeds}
use Rattle.ctl_state.specs.Planning.{bounds_in, is_at}
use Rattle.ctl_state.specs.State.{State, partition_of}

abbrev pub is_inactive : PartState → Bool
is_inactive Up = false
is_inactive Down = false
is_inactive Drain = false
is_inactive Inactive = true

abbrev pub is_down : PartState → Bool
is_down Up = false
is_down Down = true
is_down Drain = false
is_down Inactive = false

-- the limit is above the longest one, if there is a longest one
abbrev pub exceeds_longest : Limit → Option Limit → Bool
exceeds_longest limit None = false
exceeds_longest limit (Some longest) = exceeds limit longest

-- who holds a job back
abbrev pub held_reason : HeldBy → Option Reason
held_reason held.Nobody = None
held_reason held.User = Some JobHeldUser
held_reason held.Admin = Some JobHeldAdmin

-- it waits for something that hasn't come, or can't come any more
abbrev pub awaiting_reason : Standing → Option Reason
awaiting_reason Satisfied = None
awaiting_reason Waiting = Some Dependency
awaiting_reason Never = Some DependencyNeverSatisfied

-- the job isn't to begin yet
abbrev pub is_early : ℕ → JobRecord → Bool
is_early now job = nat_lt now (unwrap_or job.terms.begin 0)

-- what may hinder a job in its partition, in its order
abbrev pub hindrances_in : Option PartRecord → JobRecord → List (Option Reason)
hindrances_in None job = []
hindrances_in (Some partition) job =
    reason_if (is_inactive partition.state) PartitionInactive
    ∷ reason_if (is_down partition.state) PartitionDown
    ∷ reason_if (exceeds job.limit partition.conf.max_time) PartitionTimeLimit
    ∷ reason_if (is_none (bounds_in partition job.terms)) PartitionNodeLimit
    ∷ []

-- how many tasks of the job's array may hold processors at once
abbrev pub most_tasks : JobRecord → Option ℕ
most_tasks job = job.terms.at_once

-- the limits that the job reaches beside those of these jobs that hold processors, in their order
abbrev pub reached_beside : State → List JobRecord → JobRecord → List (Option Reason)
reached_beside s jobs job = limits_reached (beside s jobs) (counted_of job) (most_tasks job)

-- the job's limit is above the longest one of its quality of service
abbrev pub exceeds_wall : State → JobRecord → Bool
exceeds_wall s job = exceeds_longest job.limit (qos_limits_at s.qos job.qos).max_wall

-- the node with this name isn't available, or is no longer there
abbrev pub is_unavailable : List NodeRecord → List ℕ → Bool
is_unavailable nodes name =
    unwrap_or (option_map (is_at (λ node. not (is_available node)) nodes) (place_named name nodes)) true

-- a node that the job must have isn't available, or is no longer there
abbrev pub lacks_node : State → JobRecord → Bool
lacks_node s job = list_any (is_unavailable s.nodes) job.terms.required

-- a job of this limit that begins at the moment, or when the reservation does where that is later, is over by its end
abbrev pub has_time_in : Kept → ℕ → Limit → Bool
has_time_in reservation now limit = nat_le (limit_end limit (max now reservation.start)) reservation.end

-- there is no such reservation, or too little of its time is left
abbrev pub is_too_late : Option Kept → ℕ → Limit → Bool
is_too_late None now limit = true
is_too_late (Some reservation) now limit = not (has_time_in reservation now limit)

-- the job names a reservation in which it can't run any more
abbrev pub lacks_reservation : State → ℕ → JobRecord → Bool
lacks_reservation s now job =
    unwrap_or
    (option_map
    (λ name. is_too_late (reservation_named name (lasting now s.reservations)) now job.limit)
    job.terms.reservation)
    false

-- what may hinder a job at a moment, in its order
abbrev pub hindrances : State → ℕ → JobRecord → List (Option Reason)
hindrances s now job =
    held_reason job.held_by
    ∷ (awaiting_reason (standing s.jobs job)
    ∷ (reason_if (is_early now job) BeginTime
    ∷ (hindrances_in (partition_of s job) job
    ++ (reason_if (exceeds_wall s job) QosMaxWallDurationPerJobLimit
    ∷ (reached_beside s s.jobs job
    ++ (reason_if (lacks_reservation s now job) Reservation
    ∷ reason_if (lacks_node s job) ReqNodeNotAvail
    ∷ []))))))

-- what hinders the job at a moment, or nothing
unfoldable pub hindrance : State → ℕ → JobRecord → Option Reason
hindrance s now job = first_reason (hindrances s now job)
