-- What another slurm.conf makes while it runs.
use Rattle.std.specs.Prelude.{ℕ, Bool, ◌&&◌, not, if◌then◌else◌, List, ◌++◌, map, filter, filter_map, flat_map, position, bytes_eq, Option, Some, None, slice_get}
use Rattle.std.specs.Cmp.Lexicographic.{slice_cmp}
use Rattle.std.specs.Ordering.{is_lt, nat_cmp}
use Rattle.plain_data.specs.Confs.{ConfView}
use Rattle.plain_data.specs.declared.conf.Settings.{Settings}
use Rattle.request_data.specs.declared.report.Heard.{Heard}
use Rattle.reply_data.specs.declared.reply.Reply.TheVariants.{Done}
use Rattle.backfill_planner.specs.declared.Placed.{Placed}
use Rattle.backfill_planner.specs.declared.Share.{Share}
use Rattle.node_state.specs.declared.record.NodeRecord.{NodeRecord}
use Rattle.node_state.specs.declared.record.DroppedNode.{DroppedNode}
use Rattle.node_state.specs.declared.partition_record.PartRecord.{PartRecord}
use Rattle.node_state.specs.declared.reservation_record.Reservation.{Reservation}
use Rattle.node_state.specs.Moving.{reservation_moved}
use Rattle.node_state.specs.Partitions as partition
use Rattle.node_state.specs.Renewing.{renewed}
use Rattle.node_state.specs.Reservations.{has}
use Rattle.job_table.specs.declared.record.JobRecord.{JobRecord}
use Rattle.job_table.specs.declared.record.Part.{Part}
use Rattle.ctl_state.specs.Ordered.{ordered_by}
use Rattle.ctl_state.specs.State.{State}
use Rattle.ctl_state.specs.Verdicts.{Verdict, Stays, Makes}
use Rattle.ctl_reconfigure.specs.Names.{conf_names, line_names, new_place, node_names, partition_names, same_names}
use Rattle.ctl_reconfigure.specs.Same.{is_same}

-- all settings are those of the new file, but for the number of the first job, which counts at the opening alone
abbrev pub settings_after : Settings → Settings → Settings
settings_after before now = record now { first_job_id = before.first_job_id }

-- a node that stays stands as it stood, one that was heard and dropped comes back, and any other is new
abbrev pub nodes_after : State → ℕ → ConfView → List NodeRecord
nodes_after s moment conf = map (renewed s.nodes s.dropped moment) conf.nodes

-- a partition takes all of its new line, its state too
abbrev pub partitions_after : State → ℕ → ConfView → List PartRecord
partitions_after s moment conf = map (partition.opened (nodes_after s moment conf)) conf.partitions

-- the new file has the same nodes in the same order: what tells of them by their places stays
abbrev pub keeps_places : State → ConfView → Bool
keeps_places s conf = same_names (node_names s.nodes) (conf_names conf.nodes)

-- the pair of a node that was heard
abbrev pub dropped_as : List ℕ → Option Heard → Option DroppedNode
dropped_as name None = None
dropped_as name (Some heard) = Some (record { name = name; boot = heard.boot; number = heard.number })

-- the pair that a node leaves which isn't listed any more
abbrev pub leaves : (List ℕ → Bool) → NodeRecord → Option DroppedNode
leaves listed node = if listed node.conf.name then None else dropped_as node.conf.name node.heard

-- one name is before another in byte order
abbrev pub is_before : DroppedNode → DroppedNode → Bool
is_before one other = is_lt (slice_cmp nat_cmp one.name other.name)

-- Those that were heard and are dropped, in byte order of their names: without those that are listed again, and with
-- those that no longer are.
abbrev pub dropped_by : (List ℕ → Bool) → List DroppedNode → List NodeRecord → List DroppedNode
dropped_by listed dropped nodes =
    ordered_by is_before
    (filter (λ (node : DroppedNode). not (listed node.name)) dropped ++ filter_map (leaves listed) nodes)

abbrev pub dropped_after : State → ConfView → List DroppedNode
dropped_after s conf =
    if keeps_places s conf then s.dropped else dropped_by (has (conf_names conf.nodes)) s.dropped s.nodes

-- where the nodes of the new file were, those that were there
abbrev pub origins : State → ConfView → List (Option ℕ)
origins s conf = map (λ name. position (bytes_eq name) (node_names s.nodes)) (conf_names conf.nodes)

-- the reservations, of the same nodes
abbrev pub reservations_after : State → ConfView → List Reservation
reservations_after s conf =
    if keeps_places s conf then s.reservations else map (reservation_moved (origins s conf)) s.reservations

-- the part, on the same node
abbrev pub part_after : State → ConfView → Part → Part
part_after s conf part =
    record part { node = new_place (node_names s.nodes) (conf_names conf.nodes) part.node }

-- the job, with its parts on the same nodes and of the same partition
abbrev pub job_after : State → ConfView → JobRecord → JobRecord
job_after s conf job = record job {
  parts = map (part_after s conf) job.parts;
  partition = new_place (partition_names s.partitions) (line_names conf.partitions) job.partition;
}

-- the names that the shares of a plan may stand for: those of the nodes and, behind them, of those that are gone
abbrev pub share_names : State → List (List ℕ)
share_names s = node_names s.nodes ++ s.gone

-- the names of the nodes that a plan names
abbrev pub planned_names : List (List ℕ) → List Placed → List (List ℕ)
planned_names names plan =
    flat_map (λ (placed : Placed). filter_map (λ (share : Share). slice_get names share.node) placed.parts) plan

-- the names that are planned and aren't listed
abbrev pub gone_by : (List ℕ → Bool) → (List ℕ → Bool) → List (List ℕ) → List (List ℕ)
gone_by listed planned names = filter (λ name. planned name && not (listed name)) names

-- the names that the plan names and that have no line in the file
abbrev pub gone_after : State → ConfView → List (List ℕ)
gone_after s conf =
    if keeps_places s conf then s.gone
    else gone_by (has (conf_names conf.nodes)) (has (planned_names (share_names s) s.plan)) (share_names s)

-- the share, of the same node
abbrev pub share_after : State → ConfView → Share → Share
share_after s conf share = record share {
  node = new_place (share_names s) (conf_names conf.nodes ++ gone_after s conf) share.node;
}

-- the plan, of the same nodes
abbrev pub plan_after : State → ConfView → List Placed
plan_after s conf =
    map (λ (placed : Placed). record placed { parts = map (share_after s conf) placed.parts }) s.plan

-- The state of the new file. Whatever tells of nodes and of partitions by their places tells of the same ones.
abbrev pub reconfigured : State → ℕ → ConfView → State
reconfigured s moment conf = record s {
  settings = settings_after s.settings conf.settings;
  partitions = partitions_after s moment conf;
  nodes = nodes_after s moment conf;
  dropped = dropped_after s conf;
  reservations = reservations_after s conf;
  jobs = map (job_after s conf) s.jobs;
  plan = plan_after s conf;
  gone = gone_after s conf;
}

-- what a new file makes that isn't refused: nothing where it says what is in force
abbrev pub reconfigure_made : State → ℕ → ConfView → Verdict
reconfigure_made s moment conf = if is_same s conf then Stays else Makes Done (reconfigured s moment conf)
