-- How the nodes of partitions stand.
use Rattle.std.specs.Prelude.{ℕ, Bool, true, false, ◌&&◌, not, nat_eq, nat_lt, if◌then◌else◌, List, [], ◌∷◌, length, filter, filter_map, flat_map, sum_by, slice_get, bytes_eq, Option, Some, None, option_map}
use Rattle.reply_data.specs.declared.view.NodeGroup.{NodeGroup}
use Rattle.reply_data.specs.declared.view.NodeGroup.TheVariants.{Down, Draining, Drained, Allocated, Mixed, Idle}
use Rattle.reply_data.specs.declared.view.Row.{Row}
use Rattle.reply_data.specs.declared.view.Row.TheVariants.{States}
use Rattle.node_state.specs.declared.record.NodeRecord.{NodeRecord}
use Rattle.node_state.specs.Nodes.{is_up}
use Rattle.node_state.specs.declared.partition_record.PartRecord.{PartRecord}
use Rattle.job_table.specs.declared.record.Part.{Part}
use Rattle.ctl_state.specs.Holding.{parts_of}
use Rattle.job_table.specs.Changes.{is_on}
use Rattle.ctl_state.specs.State.{State}

-- how many processors of the node the part has
abbrev pub cpus_in : ℕ → Part → ℕ
cpus_in node part = if is_on node part then length part.cpus else 0

-- how many processors of the node the parts hold
unfoldable pub cpus_held : List Part → ℕ → ℕ
cpus_held parts node = sum_by (cpus_in node) parts

-- how a node stands of which so many processors are held
abbrev pub group_by : ℕ → NodeRecord → NodeGroup
group_by held node =
    if not (is_up node.down) then Down else
    if node.drain && nat_lt 0 held then Draining else
    if node.drain then Drained else
    if nat_eq held node.conf.cpus then Allocated else
    if nat_lt 0 held then Mixed else
    Idle

-- how the node at a place stands, if there is one
abbrev pub group_at : State → ℕ → Option NodeGroup
group_at s place = option_map (group_by (cpus_held (parts_of s.jobs) place)) (slice_get s.nodes place)

-- the number of a way of standing in their order
abbrev pub order_of : NodeGroup → ℕ
order_of Down = 0
order_of Draining = 1
order_of Drained = 2
order_of Allocated = 3
order_of Mixed = 4
order_of Idle = 5

abbrev pub is_group : NodeGroup → Option NodeGroup → Bool
is_group group None = false
is_group group (Some other) = nat_eq (order_of group) (order_of other)

-- the names of those of the nodes at places that stand so
unfoldable pub names_standing : State → NodeGroup → List ℕ → List (List ℕ)
names_standing s group places =
    filter_map (λ place. option_map (λ (node : NodeRecord). node.conf.name) (slice_get s.nodes place))
    (filter (λ place. is_group group (group_at s place)) places)

-- the row of the partition's nodes that stand so, if there are any
abbrev pub row_by : PartRecord → NodeGroup → List (List ℕ) → Option Row
row_by partition group [] = None
row_by partition group (name ∷ names) = Some (States (record {
  partition = partition.conf.name;
  is_default = partition.conf.is_default;
  state = partition.state;
  limit = partition.conf.max_time;
  group = group;
  nodes = name ∷ names;
}))

-- the ways in which a node may stand, in the order of their rows
abbrev pub groups : List NodeGroup
groups = Down ∷ Draining ∷ Drained ∷ Allocated ∷ Mixed ∷ Idle ∷ []

-- the rows of a partition: one for each way in which nodes of it stand
unfoldable pub rows_of_partition : State → PartRecord → List Row
rows_of_partition s partition =
    filter_map (λ group. row_by partition group (names_standing s group partition.nodes)) groups

-- the partition is the one that is asked for, if one is
abbrev pub is_asked : Option (List ℕ) → PartRecord → Bool
is_asked None partition = true
is_asked (Some name) partition = bytes_eq partition.conf.name name

-- the rows of the partitions that are asked for, in the order of slurm.conf
unfoldable pub state_rows : State → Option (List ℕ) → List Row
state_rows s partition = flat_map (rows_of_partition s) (filter (is_asked partition) s.partitions)
