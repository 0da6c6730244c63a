-- What is shown of nodes, of partitions and of reservations, each by itself.
use Rattle.std.specs.Prelude.{ℕ, Bool, true, List, map, filter, filter_map, sum_by, slice_get, unwrap_or, bytes_eq, Option, Some, None, option_map}
use Rattle.std.specs.List.{enumerate_from}
use Rattle.reply_data.specs.declared.view.NodeRow.{NodeRow}
use Rattle.reply_data.specs.declared.view.PartRow.{PartRow}
use Rattle.reply_data.specs.declared.view.ResRow.{ResRow}
use Rattle.reply_data.specs.declared.view.Row.{Row}
use Rattle.reply_data.specs.declared.view.Row.TheVariants as shown
use Rattle.node_state.specs.declared.record.NodeRecord.{NodeRecord}
use Rattle.node_state.specs.declared.partition_record.PartRecord.{PartRecord}
use Rattle.node_state.specs.declared.reservation_record.Reservation.{Reservation}
use Rattle.node_state.specs.Reservations.{is_named}
use Rattle.ctl_state.specs.Holding.{parts_of, mem_held}
use Rattle.ctl_state.specs.State.{State}
use Rattle.ctl_show.specs.Standing.{cpus_held, group_by, is_asked}

-- what is shown of the node at a place
unfoldable pub node_row : State → ℕ → NodeRecord → NodeRow
node_row s place node = record {
  name = node.conf.name;
  held = cpus_held (parts_of s.jobs) place;
  cpus = node.conf.cpus;
  mem = node.conf.mem;
  held_mem = mem_held (parts_of s.jobs) place;
  group = group_by (cpus_held (parts_of s.jobs) place) node;
  weight = node.conf.weight;
  features = node.conf.features;
  heard = node.heard;
}

-- the node is the one that is asked for, if one is
abbrev pub is_asked_for : Option (List ℕ) → NodeRecord → Bool
is_asked_for None node = true
is_asked_for (Some name) node = bytes_eq node.conf.name name

-- the rows of the nodes that are asked for, in the order of slurm.conf
unfoldable pub node_rows : State → Option (List ℕ) → List Row
node_rows s asked =
    map (λ (one : ℕ × NodeRecord). shown.Node (node_row s one.0 one.1))
    (filter (λ (one : ℕ × NodeRecord). is_asked_for asked one.1) (enumerate_from 0 s.nodes))

-- the names of the nodes at places
unfoldable pub names_at : List NodeRecord → List ℕ → List (List ℕ)
names_at nodes places =
    filter_map (λ place. option_map (λ (node : NodeRecord). node.conf.name) (slice_get nodes place)) places

-- how many processors the node at a place has
abbrev pub cpus_at : List NodeRecord → ℕ → ℕ
cpus_at nodes place = unwrap_or (option_map (λ (node : NodeRecord). node.conf.cpus) (slice_get nodes place)) 0

-- what is shown of a partition
unfoldable pub partition_row : State → PartRecord → PartRow
partition_row s partition = record {
  name = partition.conf.name;
  is_default = partition.conf.is_default;
  state = partition.state;
  max_time = partition.conf.max_time;
  default_time = partition.conf.default_time;
  min_nodes = partition.conf.min_nodes;
  max_nodes = partition.conf.max_nodes;
  tier = partition.conf.tier;
  factor = partition.conf.factor;
  nodes = names_at s.nodes partition.nodes;
  cpus = sum_by (cpus_at s.nodes) partition.nodes;
}

-- the rows of the partitions that are asked for, in the order of slurm.conf
abbrev pub partition_rows : State → Option (List ℕ) → List Row
partition_rows s asked =
    map (λ partition. shown.Partition (partition_row s partition)) (filter (is_asked asked) s.partitions)

-- what is shown of a reservation
unfoldable pub reservation_row : List NodeRecord → Reservation → ResRow
reservation_row nodes reservation = record {
  name = reservation.name;
  start = reservation.start;
  end = reservation.end;
  nodes = names_at nodes reservation.nodes;
  users = reservation.users;
  accounts = reservation.accounts;
}

-- the reservation is the one that is asked for, if one is
abbrev pub is_meant : Option (List ℕ) → Reservation → Bool
is_meant None reservation = true
is_meant (Some name) reservation = is_named name reservation

-- the rows of the reservations that are asked for, in the order in which they were made
abbrev pub reservation_rows : State → Option (List ℕ) → List Row
reservation_rows s asked =
    map
    (λ (reservation : Reservation). shown.Reservation (reservation_row s.nodes reservation))
    (filter (is_meant asked) s.reservations)
