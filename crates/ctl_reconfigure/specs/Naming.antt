-- What tells of nodes and of partitions by their places, told by their names.
use Rattle.std.specs.Prelude.{◌≡◌, ℕ, List, [], map, filter_map, slice_get, Option}
use Rattle.backfill_planner.specs.declared.Placed.{Placed}
use Rattle.backfill_planner.specs.declared.Share.{Share}
use Rattle.node_state.specs.declared.reservation_record.Reservation.{Reservation}
use Rattle.node_state.specs.Reservations.{has}
use Rattle.job_table.specs.declared.record.JobRecord.{JobRecord}
use Rattle.job_table.specs.declared.record.Part.{Part}
use Rattle.ctl_state.specs.State.{State}
use Rattle.ctl_reconfigure.specs.Names.{node_names, partition_names}
use Rattle.ctl_reconfigure.specs.Reconfiguring.{share_names}

-- the name of the node at a place, if there is one
abbrev pub node_at : State → ℕ → Option (List ℕ)
node_at s place = slice_get (node_names s.nodes) place

-- the nodes of a job's parts
abbrev pub nodes_held : State → JobRecord → List (Option (List ℕ))
nodes_held s job = map (λ (part : Part). node_at s part.node) job.parts

-- its partition
abbrev pub partition_meant : State → JobRecord → Option (List ℕ)
partition_meant s job = slice_get (partition_names s.partitions) job.partition

-- the nodes of a reservation
abbrev pub nodes_reserved : State → Reservation → List (List ℕ)
nodes_reserved s reservation = filter_map (node_at s) reservation.nodes

-- the node of a share of the plan
abbrev pub node_planned : State → Share → Option (List ℕ)
node_planned s share = slice_get (share_names s) share.node

-- a reservation of one state has the nodes that another has in another state
abbrev pub NamesSame : State → State → Reservation → Reservation → Type 0
NamesSame s s' before after = (name : List ℕ) → has (nodes_reserved s' after) name ≡ has (nodes_reserved s before) name

-- a job but for the places of its nodes and of its partition, a reservation but for those of its nodes, and a placement
-- but for those of its shares
abbrev pub job_anywhere : JobRecord → JobRecord
job_anywhere job =
    record job { parts = map (λ (part : Part). record part { node = 0 }) job.parts; partition = 0 }

abbrev pub reservation_anywhere : Reservation → Reservation
reservation_anywhere reservation = record reservation { nodes = [] }

abbrev pub placed_anywhere : Placed → Placed
placed_anywhere placed = record placed { parts = map (λ (share : Share). record share { node = 0 }) placed.parts }
