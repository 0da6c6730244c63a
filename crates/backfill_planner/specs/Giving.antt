-- What a node can give to a job over the job's window, and what the job then takes of it.
use Rattle.std.specs.Prelude.{ℕ, ◌+◌, ◌*◌, ◌/◌, min, Bool, ◌&&◌, ◌||◌, not, nat_eq, nat_le, nat_lt, if◌then◌else◌, List, map, unwrap_or, option_map}
use Rattle.std.specs.List.{list_any}
use Rattle.plain_data.specs.Rows.{has_id}
use Rattle.resource_profile.specs.declared.NodeRoom.{NodeRoom}
use Rattle.resource_profile.specs.declared.Hold.{Hold}
use Rattle.resource_profile.specs.Free.{room_at, free_cpus, free_mem, least_over}
use Rattle.plain_data.specs.declared.mem_ask.MemAsk.{MemAsk}
use Rattle.plain_data.specs.declared.mem_ask.MemAsk.TheVariants.{All, PerNode, PerCpu}
use Rattle.backfill_planner.specs.declared.job.Barred.{Barred}
use Rattle.backfill_planner.specs.declared.job.PlanJob.{PlanJob}
use Rattle.plain_data.specs.declared.seconds.TheConstants.{FOREVER}

-- where the job's window ends that begins at `start`; without a limit it ends after all moments
abbrev pub window_end : PlanJob → ℕ → ℕ
window_end job start = unwrap_or (option_map (λ seconds. start + seconds) job.seconds) FOREVER

-- how many tasks, at most `most`, the free megabytes of a node can take
abbrev pub tasks_by_mem : MemAsk → ℕ → NodeRoom → ℕ → ℕ → ℕ
tasks_by_mem All cpus_per_task room mem most = if nat_eq mem room.mem then most else 0
tasks_by_mem (PerNode asked) cpus_per_task room mem most = if nat_le asked mem then most else 0
tasks_by_mem (PerCpu asked) cpus_per_task room mem most = min most (mem / (asked * cpus_per_task))

-- whether the job may have a node with this room of which so much is free: all of it, if it takes whole nodes
abbrev pub may_have : PlanJob → NodeRoom → ℕ → ℕ → Bool
may_have job room cpus mem = room.usable && (not job.exclusive || (nat_eq cpus room.cpus && nat_eq mem room.mem))

-- how many tasks the node can give where so many processors and megabytes of it are free
abbrev pub tasks_given : PlanJob → NodeRoom → ℕ → ℕ → ℕ
tasks_given job room cpus mem =
    if may_have job room cpus mem
    then tasks_by_mem job.mem_ask job.cpus_per_task room mem (min job.per_node (cpus / job.cpus_per_task))
    else 0

-- the time is one at which the node may not be had, and crosses the seconds from `from` on and before `until`
abbrev pub bars : ℕ → ℕ → ℕ → Barred → Bool
bars node from until time = has_id time.nodes node && (nat_lt from time.until && nat_lt time.from until)

-- one of the times at which the job may not have the node crosses these seconds
abbrev pub is_barred : List Barred → ℕ → ℕ → ℕ → Bool
is_barred barred node from until = list_any (bars node from until) barred

-- how many tasks the node can give over every second of the job's window that begins at `start`: none, if the job may
-- not have it at one of them
abbrev pub give : List NodeRoom → List Hold → PlanJob → ℕ → ℕ → ℕ
give rooms holds job start node =
    if is_barred job.barred node start (window_end job start)
    then 0
    else tasks_given job (room_at rooms node)
    (least_over (λ moment. free_cpus rooms holds node moment) start (window_end job start))
    (least_over (λ moment. free_mem rooms holds node moment) start (window_end job start))

-- what each of the job's nodes can give
unfoldable pub capacities : List NodeRoom → List Hold → PlanJob → ℕ → List ℕ
capacities rooms holds job start = map (λ node. give rooms holds job start node) job.nodes

-- the processors of a node with this room that the job takes for so many tasks
abbrev pub taken_cpus : PlanJob → NodeRoom → ℕ → ℕ
taken_cpus job room tasks = if job.exclusive then room.cpus else tasks * job.cpus_per_task

-- the megabytes that a job takes by what it asks for
abbrev pub asked_mem : MemAsk → NodeRoom → ℕ → ℕ
asked_mem All room cpus = room.mem
asked_mem (PerNode asked) room cpus = asked
asked_mem (PerCpu asked) room cpus = asked * cpus

-- the megabytes of the node that it takes
abbrev pub taken_mem : PlanJob → NodeRoom → ℕ → ℕ
taken_mem job room tasks = if job.exclusive then room.mem else asked_mem job.mem_ask room (tasks * job.cpus_per_task)
