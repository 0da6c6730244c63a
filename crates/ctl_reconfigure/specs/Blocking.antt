-- What stands against a new file: what it leaves out, or makes too small, that jobs or reservations need.
use Rattle.std.specs.Prelude.{ℕ, Bool, false, ◌&&◌, ◌||◌, not, nat_eq, nat_le, nat_lt, bytes_eq, unwrap_or, List, length, find, Option, slice_get, option_map}
use Rattle.std.specs.Option.{option_and_then, option_or}
use Rattle.std.specs.List.{list_any, range_with_len}
use Rattle.plain_data.specs.Rows.{has_id}
use Rattle.plain_data.specs.Confs.{ConfView}
use Rattle.plain_data.specs.declared.conf.NodeConf.{NodeConf}
use Rattle.plain_data.specs.declared.conf.PartConf.{PartConf}
use Rattle.node_state.specs.declared.record.NodeRecord.{NodeRecord}
use Rattle.node_state.specs.declared.partition_record.PartRecord.{PartRecord}
use Rattle.node_state.specs.declared.reservation_record.Reservation.{Reservation}
use Rattle.job_table.specs.declared.record.JobRecord.{JobRecord}
use Rattle.job_table.specs.declared.record.Part.{Part}
use Rattle.job_table.specs.Changes.{is_on}
use Rattle.ctl_state.specs.Holding.{mem_held, parts_of}
use Rattle.ctl_state.specs.Planning.{is_at}
use Rattle.ctl_state.specs.State.{State}

-- a part, or a reservation, is on the node at a place
abbrev pub is_needed : State → ℕ → Bool
is_needed s place =
    list_any (is_on place) (parts_of s.jobs)
    || list_any (λ (reservation : Reservation). has_id reservation.nodes place) s.reservations

-- the line is of the node
abbrev pub is_of : NodeRecord → NodeConf → Bool
is_of node conf = bytes_eq conf.name node.conf.name

-- Of the node at a place more is held than its new line has: a processor that isn't below their number, or memory.
abbrev pub is_too_small : List Part → ℕ → NodeConf → Bool
is_too_small parts place conf =
    list_any (λ (part : Part). is_on place part && list_any (λ cpu. nat_le conf.cpus cpu) part.cpus) parts
    || nat_lt conf.mem (mem_held parts place)

-- the node at a place is needed and has no line, or its line is too small
abbrev pub blocks : State → List NodeConf → ℕ → NodeRecord → Bool
blocks s confs place node =
    (is_needed s place && not (list_any (is_of node) confs))
    || list_any (λ (conf : NodeConf). is_of node conf && is_too_small (parts_of s.jobs) place conf) confs

-- the first such node, by its name
unfoldable pub blocking_node : State → ConfView → Option (List ℕ)
blocking_node s conf =
    option_and_then (λ place. option_map (λ (node : NodeRecord). node.conf.name) (slice_get s.nodes place))
    (find (λ place. is_at (blocks s conf.nodes place) s.nodes place) (range_with_len 0 (length s.nodes)))

-- the partition at a place has jobs, ended ones too, and none of the lines
abbrev pub is_left_out : State → List PartConf → ℕ → PartRecord → Bool
is_left_out s confs place partition =
    list_any (λ (job : JobRecord). nat_eq job.partition place) s.jobs
    && not (list_any (λ (conf : PartConf). bytes_eq conf.name partition.conf.name) confs)

-- the same where there is a partition at the place
abbrev pub is_left_out_at : State → List PartConf → ℕ → Bool
is_left_out_at s confs place =
    unwrap_or (option_map (is_left_out s confs place) (slice_get s.partitions place)) false

-- the first such partition, by its name
unfoldable pub blocking_partition : State → ConfView → Option (List ℕ)
blocking_partition s conf =
    option_and_then
    (λ place. option_map (λ (partition : PartRecord). partition.conf.name) (slice_get s.partitions place))
    (find (is_left_out_at s conf.partitions) (range_with_len 0 (length s.partitions)))

-- What can't go or shrink, by its name: the first such node or, where there is none, the first such partition.
abbrev pub blocked : State → ConfView → Option (List ℕ)
blocked s conf = option_or (blocking_node s conf) (blocking_partition s conf)
