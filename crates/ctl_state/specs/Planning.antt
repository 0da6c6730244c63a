-- What the planner is told of nodes and jobs.
use Rattle.std.specs.Prelude.{ℕ, ◌*◌, Bool, true, false, ◌&&◌, ◌||◌, not, nat_eq, nat_lt, if◌then◌else◌, unwrap_or, List, [], ◌∷◌, ◌++◌, length, filter, filter_map, flat_map, slice_get, Option, Some, None, option_map}
use Rattle.std.specs.List.{list_all, list_any}
use Rattle.plain_data.specs.declared.limit.Limit.{Limit}
use Rattle.plain_data.specs.declared.limit.Limit.TheVariants.{Minutes, Unlimited}
use Rattle.plain_data.specs.declared.features.FeatureExpr.{FeatureExpr}
use Rattle.resource_profile.specs.declared.NodeRoom.{NodeRoom}
use Rattle.backfill_planner.specs.declared.job.Barred.{Barred}
use Rattle.backfill_planner.specs.declared.job.PlanJob.{PlanJob}
use Rattle.node_state.specs.declared.reservation_record.Reservation.{Reservation}
use Rattle.node_state.specs.Reservations.{has, is_named as has_name, reservation_named}
use Rattle.plain_data.specs.Rows.{has_id}
use Rattle.node_state.specs.declared.record.NodeRecord.{NodeRecord}
use Rattle.node_state.specs.Nodes.{is_available, is_named, has_features}
use Rattle.node_state.specs.declared.partition_record.PartRecord.{PartRecord}
use Rattle.node_state.specs.Partitions.{bounds_of}
use Rattle.job_table.specs.declared.record.JobRecord.{JobRecord}
use Rattle.job_table.specs.declared.record.Part.{Part}
use Rattle.job_table.specs.declared.terms.Terms.{Terms}
use Rattle.ctl_state.specs.Ordered.{ordered_by}
use Rattle.plain_data.specs.declared.seconds.TheConstants.{FOREVER}

-- what a node has in all, which a plan may use where the node is available
abbrev pub room_of : NodeRecord → NodeRoom
room_of node = record { cpus = node.conf.cpus; mem = node.conf.mem; usable = is_available node }

-- the same, as if it were
abbrev pub open_room : NodeRecord → NodeRoom
open_room node = record { cpus = node.conf.cpus; mem = node.conf.mem; usable = true }

-- whether there is a node at the place, and this is true of it
abbrev pub is_at : (NodeRecord → Bool) → List NodeRecord → ℕ → Bool
is_at test nodes place = unwrap_or (option_map test (slice_get nodes place)) false

-- the weight of the node at a place
abbrev pub weight_at : List NodeRecord → ℕ → ℕ
weight_at nodes place = unwrap_or (option_map (λ (node : NodeRecord). node.conf.weight) (slice_get nodes place)) 0

-- a node of lower weight is taken first, and of one weight the one that comes first in slurm.conf
abbrev pub is_taken_before : List NodeRecord → ℕ → ℕ → Bool
is_taken_before nodes one other =
    nat_lt (weight_at nodes one) (weight_at nodes other)
    || (nat_eq (weight_at nodes one) (weight_at nodes other) && nat_lt one other)

-- the nodes of a partition, in the order in which jobs take them
unfoldable pub node_order : List NodeRecord → PartRecord → List ℕ
node_order nodes partition = ordered_by (is_taken_before nodes) partition.nodes

-- the node has the features that are wanted, if any are
abbrev pub has_wanted : Option FeatureExpr → NodeRecord → Bool
has_wanted None node = true
has_wanted (Some features) node = has_features features node

-- the job may run on the node, as far as it says
abbrev pub may_run : Terms → NodeRecord → Bool
may_run terms node = not (has terms.excluded node.conf.name) && has_wanted terms.features node

-- the job must have the node
abbrev pub must_have : Terms → NodeRecord → Bool
must_have terms node = has terms.required node.conf.name

-- those of the places at which the job may run, in their order: those that it must have first
abbrev pub required_first : List NodeRecord → Terms → List ℕ → List ℕ
required_first nodes terms places =
    filter (is_at (must_have terms) nodes) places ++ filter (λ place. not (is_at (must_have terms) nodes place)) places

-- each node that the job must have is at one of the places
abbrev pub are_there : List NodeRecord → Terms → List ℕ → Bool
are_there nodes terms places = list_all (λ name. list_any (is_at (is_named name) nodes) places) terms.required

-- The places of the job's nodes among those of a partition, in the order in which it takes them; none where it must
-- have one that it can't have.
abbrev pub nodes_among : List NodeRecord → Terms → List ℕ → List ℕ
nodes_among nodes terms order =
    if are_there nodes terms (filter (is_at (may_run terms) nodes) order)
    then required_first nodes terms (filter (is_at (may_run terms) nodes) order)
    else []

-- how many nodes a job on these terms may have in a partition, at least and at most
abbrev pub bounds_in : PartRecord → Terms → Option (ℕ × ℕ)
bounds_in partition terms = bounds_of partition terms.tasks terms.min_nodes terms.max_nodes

-- a limit in seconds
abbrev pub seconds_of : Limit → Option ℕ
seconds_of (Minutes minutes) = Some (minutes * 60)
seconds_of Unlimited = None

-- the reservation, if there is one, has the node at a place
abbrev pub is_kept_by : Option Reservation → ℕ → Bool
is_kept_by None place = false
is_kept_by (Some reservation) place = has_id reservation.nodes place

-- a job that names a reservation may have nodes of this one alone
abbrev pub is_within : List Reservation → Option (List ℕ) → ℕ → Bool
is_within reservations None place = true
is_within reservations (Some name) place = is_kept_by (reservation_named name reservations) place

-- those of a partition's nodes that a job may have which names this reservation, or none, in the order in which it
-- takes them
unfoldable pub places_for : List NodeRecord → List Reservation → PartRecord → Option (List ℕ) → List ℕ
places_for nodes reservations partition name = filter (is_within reservations name) (node_order nodes partition)

-- the nodes of a reservation, throughout its time
abbrev pub throughout : Reservation → Barred
throughout reservation =
    record { nodes = reservation.nodes; from = reservation.start; until = reservation.end }

-- the same, before it and after it
abbrev pub outside : Reservation → List Barred
outside reservation =
    record { nodes = reservation.nodes; from = 0; until = reservation.start }
    ∷ record { nodes = reservation.nodes; from = reservation.end; until = FOREVER }
    ∷ []

-- a job that names this reservation, or none, names this one
abbrev pub is_theirs : Option (List ℕ) → Reservation → Bool
is_theirs None reservation = false
is_theirs (Some name) reservation = has_name name reservation

-- when such a job may not have the nodes of one
abbrev pub barred_by : Option (List ℕ) → Reservation → List Barred
barred_by name reservation =
    if is_theirs name reservation then outside reservation else throughout reservation ∷ []

-- when it may not have the nodes of these
unfoldable pub barred_of : List Reservation → Option (List ℕ) → List Barred
barred_of reservations name = flat_map (barred_by name) reservations

-- What a job needs in a partition, on so many nodes at least and at most, where it may have those at these places, but
-- for those times.
unfoldable pub plan_job : List NodeRecord → PartRecord → List ℕ → List Barred → ℕ × ℕ → JobRecord → PlanJob
plan_job nodes partition places barred bounds job = record {
  id = job.id;
  need = record { tasks = job.terms.tasks; least = bounds.0; most = bounds.1; required = length job.terms.required };
  cpus_per_task = job.terms.cpus_per_task;
  per_node = unwrap_or job.terms.tasks_per_node job.terms.tasks;
  mem_ask = job.terms.mem;
  exclusive = job.terms.exclusive || partition.conf.exclusive;
  nodes = nodes_among nodes job.terms places;
  seconds = seconds_of job.limit;
  barred = barred;
}

-- the names of the nodes of these parts
unfoldable pub names_of : List NodeRecord → List Part → List (List ℕ)
names_of nodes parts =
    filter_map
    (λ (part : Part). option_map (λ (node : NodeRecord). node.conf.name) (slice_get nodes part.node))
    parts
