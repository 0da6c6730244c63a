-- The state that a saved one stands for: the same, with places where it has names. Names that must lead somewhere are a
-- matter of what fits.
use Rattle.std.specs.Prelude.{ℕ, ◌+◌, Bool, false, is_none, unwrap_or, List, map, length, filter, find, flat_map, position, bytes_eq, ◌++◌, Option, Some, None, option_map}
use Rattle.std.specs.List.{range_with_len}
use Rattle.host_lists.specs.Hosts.{distinct}
use Rattle.plain_data.specs.Assocs.{AssocView}
use Rattle.plain_data.specs.Confs.{ConfView}
use Rattle.reply_data.specs.declared.view.NamedPart.{NamedPart}
use Rattle.node_state.specs.declared.record.DownBy.TheVariants.{Silent}
use Rattle.node_state.specs.declared.record.DroppedNode.{DroppedNode}
use Rattle.node_state.specs.declared.record.NodeRecord.{NodeRecord}
use Rattle.node_state.specs.Nodes.{place_named}
use Rattle.node_state.specs.declared.partition_record.PartRecord.{PartRecord}
use Rattle.node_state.specs.Partitions.{in_state, place_meant}
use Rattle.node_state.specs.declared.reservation_record.Reservation.{Reservation}
use Rattle.job_table.specs.declared.record.Part.{Part}
use Rattle.job_table.specs.declared.record.JobRecord.{JobRecord}
use Rattle.job_table.specs.Targets.{is_number}
use Rattle.run_limits.specs.declared.record.AssocRecord.{AssocRecord}
use Rattle.run_limits.specs.Accounts.{place_in, qos_meant}
use Rattle.backfill_planner.specs.declared.Placed.{Placed}
use Rattle.backfill_planner.specs.declared.Share.{Share}
use Rattle.ctl_state.specs.declared.record.ArrayRecord.{ArrayRecord}
use Rattle.ctl_state.specs.State.{State, opening}
use Rattle.ctl_nodes.specs.Reserving.{places_among}
use Rattle.saved_data.specs.declared.job.SavedJob.{SavedJob}
use Rattle.saved_data.specs.declared.parts.SavedArray.{SavedArray}
use Rattle.saved_data.specs.declared.parts.SavedNode.{SavedNode}
use Rattle.saved_data.specs.declared.parts.SavedPartition.{SavedPartition}
use Rattle.saved_data.specs.declared.parts.SavedPlaced.{SavedPlaced}
use Rattle.saved_data.specs.declared.parts.SavedReservation.{SavedReservation}
use Rattle.saved_data.specs.declared.parts.SavedShare.{SavedShare}
use Rattle.saved_data.specs.declared.parts.SavedUsage.{SavedUsage}
use Rattle.saved_data.specs.declared.saved.Saved.{Saved}

-- a partition without a line is as slurm.conf says it, and else in the state of its line
abbrev pub in_saved_state : PartRecord → Option SavedPartition → PartRecord
in_saved_state partition None = partition
in_saved_state partition (Some line) = in_state line.state partition

abbrev pub restored_partition : List SavedPartition → PartRecord → PartRecord
restored_partition lines partition =
    in_saved_state partition (find (λ (line : SavedPartition). bytes_eq line.name partition.conf.name) lines)

-- how a dropped node stands that comes back: heard at this moment, and down by silence
abbrev pub came_back : ℕ → DroppedNode → SavedNode
came_back moment dropped = record {
  name = dropped.name;
  down = Silent;
  drain = false;
  empty = false;
  heard = Some (record { boot = dropped.boot; number = dropped.number; moment = moment });
}

-- how the nodes stand of which something is said, and those that were dropped, should they come back
abbrev pub standings : Saved → List SavedNode
standings saved = saved.nodes ++ map (came_back saved.moment) saved.dropped

-- a node of which nothing is said is as slurm.conf says it
abbrev pub standing_as : NodeRecord → Option SavedNode → NodeRecord
standing_as node None = node
standing_as node (Some line) =
    record node { down = line.down; drain = line.drain; empty = line.empty; heard = line.heard }

abbrev pub restored_node : List SavedNode → NodeRecord → NodeRecord
restored_node lines node =
    standing_as node (find (λ (line : SavedNode). bytes_eq line.name node.conf.name) lines)

-- a dropped node is still dropped where slurm.conf doesn't name it
abbrev pub is_gone : List NodeRecord → DroppedNode → Bool
is_gone nodes dropped = is_none (place_named dropped.name nodes)

-- a line of usage is that of the association to which its names lead
abbrev pub is_usage_of : List AssocRecord → ℕ → SavedUsage → Bool
is_usage_of assocs place line = is_number place (place_in assocs line.user line.account)

-- what the line of the association at a place tells, or nothing
abbrev pub restored_usage : List SavedUsage → List AssocRecord → ℕ → ℕ
restored_usage lines assocs place =
    unwrap_or (option_map (λ (line : SavedUsage). line.total) (find (is_usage_of assocs place) lines)) 0

unfoldable pub restored_usages : List SavedUsage → List AssocRecord → List ℕ
restored_usages lines assocs = map (restored_usage lines assocs) (range_with_len 0 (length assocs))

unfoldable pub restored_reservation : List NodeRecord → SavedReservation → Reservation
restored_reservation nodes saved = record {
  name = saved.name;
  start = saved.start;
  end = saved.end;
  nodes = places_among nodes saved.nodes;
  names = saved.nodes;
  users = saved.users;
  accounts = saved.accounts;
}

abbrev pub restored_array : SavedArray → ArrayRecord
restored_array saved = record { id = saved.id; indices = saved.indices }

-- the place of the node with this name
abbrev pub node_place : List NodeRecord → List ℕ → ℕ
node_place nodes name = unwrap_or (place_named name nodes) 0

abbrev pub restored_part : List NodeRecord → NamedPart → Part
restored_part nodes part = record { node = node_place nodes part.node; cpus = part.cpus; mem = part.mem }

-- a job, with its places in a state's lists
unfoldable pub restored_job : State → SavedJob → JobRecord
restored_job s job = record {
  id = job.id;
  array = job.array;
  index = job.index;
  user = job.user;
  terms = job.terms;
  assoc = unwrap_or (place_in s.assocs job.user job.terms.account) 0;
  qos = unwrap_or (qos_meant s.qos (Some job.terms.qos)) 0;
  partition = unwrap_or (place_meant (Some job.partition) s.partitions) 0;
  submit = job.submit;
  eligible = job.eligible;
  limit = job.limit;
  nice = job.nice;
  held_by = job.held_by;
  state = job.state;
  starts = job.starts;
  parts = map (restored_part s.nodes) job.parts;
  started = job.started;
  ended = job.ended;
  exit = job.exit;
  last_nodes = job.last_nodes;
}

-- the names in these shares that are no node's
abbrev pub strangers : List NodeRecord → List SavedShare → List (List ℕ)
strangers nodes shares =
    filter (λ name. is_none (place_named name nodes)) (map (λ (share : SavedShare). share.node) shares)

-- the names in a plan that are no node's, each once, at its first place
unfoldable pub gone_names : List NodeRecord → List SavedPlaced → List (List ℕ)
gone_names nodes plan = distinct (flat_map (λ (placed : SavedPlaced). strangers nodes placed.shares) plan)

-- the place of the node with this name, or behind those of the nodes the place among those that are gone
abbrev pub planned_place : List NodeRecord → List (List ℕ) → List ℕ → ℕ
planned_place nodes gone name =
    unwrap_or (place_named name nodes) (length nodes + unwrap_or (position (bytes_eq name) gone) 0)

abbrev pub restored_share : List NodeRecord → List (List ℕ) → SavedShare → Share
restored_share nodes gone share = record {
  node = planned_place nodes gone share.node;
  tasks = share.tasks;
  cpus = share.cpus;
  mem = share.mem;
}

unfoldable pub restored_shares : List NodeRecord → List (List ℕ) → List SavedShare → List Share
restored_shares nodes gone shares = map (restored_share nodes gone) shares

abbrev pub restored_placed : List NodeRecord → List (List ℕ) → SavedPlaced → Placed
restored_placed nodes gone saved =
    record { id = saved.id; start = saved.start; parts = restored_shares nodes gone saved.shares }

-- what is saved, put into a state that has only opened
unfoldable pub restored_over : State → Saved → State
restored_over s saved = record s {
  partitions = map (restored_partition saved.partitions) s.partitions;
  nodes = map (restored_node (standings saved)) s.nodes;
  dropped = filter (is_gone s.nodes) saved.dropped;
  reservations = map (restored_reservation s.nodes) saved.reservations;
  jobs = map (restored_job s) saved.jobs;
  usage = restored_usages saved.usage s.assocs;
  arrays = map restored_array saved.arrays;
  plan = map (restored_placed s.nodes (gone_names s.nodes saved.plan)) saved.plan;
  gone = gone_names s.nodes saved.plan;
  next_id = saved.next_id;
  moment = saved.moment;
}

-- The state restored of what is saved, with the settings, nodes, partitions and accounts of the two files.
abbrev pub restored : ConfView → AssocView → Saved → State
restored conf file saved = restored_over (opening conf file) saved
