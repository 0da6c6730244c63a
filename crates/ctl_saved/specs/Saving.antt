-- What is saved of a state: the same, with names where it has places.
use Rattle.std.specs.Prelude.{◌≤◌, ℕ, ◌&&◌, nat_lt, if◌then◌else◌, unwrap_or, List, [], ◌++◌, map, filter_map, slice_get, AllPairs, Option, Some, None, option_map}
use Rattle.std.specs.List.{zip}
use Rattle.reply_data.specs.declared.view.NamedPart.{NamedPart}
use Rattle.node_state.specs.declared.record.DroppedNode.{DroppedNode}
use Rattle.node_state.specs.declared.record.NodeRecord.{NodeRecord}
use Rattle.node_state.specs.declared.partition_record.PartRecord.{PartRecord}
use Rattle.node_state.specs.declared.reservation_record.Reservation.{Reservation}
use Rattle.job_table.specs.declared.record.Part.{Part}
use Rattle.job_table.specs.declared.record.JobRecord.{JobRecord}
use Rattle.run_limits.specs.declared.record.AssocRecord.{AssocRecord}
use Rattle.run_limits.specs.Accounts.{account_of}
use Rattle.backfill_planner.specs.declared.Placed.{Placed}
use Rattle.backfill_planner.specs.declared.Share.{Share}
use Rattle.ctl_state.specs.declared.record.ArrayRecord.{ArrayRecord}
use Rattle.ctl_state.specs.State.{State}
use Rattle.saved_data.specs.Order.{IsNotBehind}
use Rattle.saved_data.specs.declared.job.SavedJob.{SavedJob}
use Rattle.saved_data.specs.declared.parts.SavedArray.{SavedArray}
use Rattle.saved_data.specs.declared.parts.SavedNode.{SavedNode}
use Rattle.saved_data.specs.declared.parts.SavedPartition.{SavedPartition}
use Rattle.saved_data.specs.declared.parts.SavedPlaced.{SavedPlaced}
use Rattle.saved_data.specs.declared.parts.SavedReservation.{SavedReservation}
use Rattle.saved_data.specs.declared.parts.SavedShare.{SavedShare}
use Rattle.saved_data.specs.declared.parts.SavedUsage.{SavedUsage}
use Rattle.saved_data.specs.declared.saved.Saved.{Saved}

abbrev pub saved_partition : PartRecord → SavedPartition
saved_partition partition = record { name = partition.conf.name; state = partition.state }

abbrev pub saved_node : NodeRecord → SavedNode
saved_node node = record {
  name = node.conf.name;
  down = node.down;
  drain = node.drain;
  empty = node.empty;
  heard = node.heard;
}

abbrev pub saved_array : ArrayRecord → SavedArray
saved_array array = record { id = array.id; indices = array.indices }

-- the name of the node at a place
abbrev pub name_at : List NodeRecord → ℕ → Option (List ℕ)
name_at nodes place = option_map (λ (node : NodeRecord). node.conf.name) (slice_get nodes place)

-- what a part holds, by the name of its node
abbrev pub named_part : List NodeRecord → Part → Option NamedPart
named_part nodes part =
    option_map (λ name. record { node = name; cpus = part.cpus; mem = part.mem }) (name_at nodes part.node)

unfoldable pub named_parts : List NodeRecord → List Part → List NamedPart
named_parts nodes parts = filter_map (named_part nodes) parts

-- the name of the node at a place of a plan: behind the nodes stand those that are no longer there
abbrev pub planned_name : List NodeRecord → List (List ℕ) → ℕ → Option (List ℕ)
planned_name nodes gone place = slice_get (map (λ (node : NodeRecord). node.conf.name) nodes ++ gone) place

-- a planned share, by the name of its node
abbrev pub saved_share : List NodeRecord → List (List ℕ) → Share → Option SavedShare
saved_share nodes gone share =
    option_map (λ name. record { node = name; tasks = share.tasks; cpus = share.cpus; mem = share.mem })
    (planned_name nodes gone share.node)

unfoldable pub saved_shares : List NodeRecord → List (List ℕ) → List Share → List SavedShare
saved_shares nodes gone shares = filter_map (saved_share nodes gone) shares

abbrev pub saved_placed : List NodeRecord → List (List ℕ) → Placed → SavedPlaced
saved_placed nodes gone placed =
    record { id = placed.id; start = placed.start; shares = saved_shares nodes gone placed.parts }

unfoldable pub saved_reservation : Reservation → SavedReservation
saved_reservation reservation = record {
  name = reservation.name;
  start = reservation.start;
  end = reservation.end;
  nodes = reservation.names;
  users = reservation.users;
  accounts = reservation.accounts;
}

-- what the starts of a user's jobs in an account have used, where that is something
abbrev pub saved_usage : List AssocRecord → AssocRecord × ℕ → Option SavedUsage
saved_usage assocs (assoc, total) =
    if assoc.conf.user && nat_lt 0 total
    then Some (record { account = account_of assocs assoc; user = assoc.conf.name; total = total })
    else None

unfoldable pub saved_usages : List AssocRecord → List ℕ → List SavedUsage
saved_usages assocs totals = filter_map (saved_usage assocs) (zip assocs totals)

-- the name of the partition at a place
abbrev pub partition_name : List PartRecord → ℕ → List ℕ
partition_name partitions place =
    unwrap_or (option_map (λ (partition : PartRecord). partition.conf.name) (slice_get partitions place)) []

unfoldable pub saved_job : List PartRecord → List NodeRecord → JobRecord → SavedJob
saved_job partitions nodes job = record {
  id = job.id;
  array = job.array;
  index = job.index;
  user = job.user;
  terms = job.terms;
  partition = partition_name partitions job.partition;
  limit = job.limit;
  nice = job.nice;
  submit = job.submit;
  eligible = job.eligible;
  held_by = job.held_by;
  state = job.state;
  starts = job.starts;
  started = job.started;
  ended = job.ended;
  exit = job.exit;
  last_nodes = job.last_nodes;
  parts = named_parts nodes job.parts;
}

-- What is saved of a state.
unfoldable pub saved_of : State → Saved
saved_of s = record {
  moment = s.moment;
  next_id = s.next_id;
  partitions = map saved_partition s.partitions;
  nodes = map saved_node s.nodes;
  dropped = s.dropped;
  usage = saved_usages s.assocs s.usage;
  reservations = map saved_reservation s.reservations;
  arrays = map saved_array s.arrays;
  jobs = map (saved_job s.partitions s.nodes) s.jobs;
  plan = map (saved_placed s.nodes s.gone) s.plan;
}

-- a state's arrays and dropped nodes stand in their order, as its jobs do
pub record StandsInOrder (s : State) : Type 0 where
  pub arrays : AllPairs (λ (one other : ArrayRecord). one.id ≤ other.id) s.arrays
  pub dropped : AllPairs (λ (one other : DroppedNode). IsNotBehind one.name other.name) s.dropped
