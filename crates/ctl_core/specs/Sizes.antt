-- How much a request takes of the history's room.
use Rattle.std.specs.Prelude.{ℕ, ◌+◌, ◌*◌, Bool, true, false, ◌||◌, nat_le, List, length, sum_by}
use Rattle.plain_data.specs.declared.conf.PartConf.{PartConf}
use Rattle.plain_data.specs.Confs.{ConfView}
use Rattle.request_data.specs.declared.request.Request.{Request}
use Rattle.request_data.specs.declared.request.Request.TheVariants.{Submit, Cancel, Hold, Release, Requeue, UpdateJob, UpdateNode, UpdatePartition, CreateReservation, DeleteReservation, Report, Pass, Shutdown, Reconfigure, Show}
use Rattle.request_data.specs.declared.reservation.ReservationDesc.{ReservationDesc}
use Rattle.request_data.specs.declared.target.Targets.{Targets}
use Rattle.request_data.specs.declared.target.Targets.TheVariants.{List as Listed, User}
use Rattle.ctl_state.specs.State.{State, last_size, shutdown_size}

-- what is listed counts 32 each
abbrev pub listing : ℕ → ℕ
listing count = 256 + 32 * count

abbrev pub targets_listed : Targets → ℕ
targets_listed (Listed targets) = length targets
targets_listed (User name) = 1

-- a reservation lists its name, its nodes, and whom it is for
abbrev pub reservation_listed : ReservationDesc → ℕ
reservation_listed desc = 1 + (length desc.nodes + (length desc.users + length desc.accounts))

-- how many nodes its partitions name, each as often as one does
abbrev pub nodes_listed : List PartConf → ℕ
nodes_listed partitions = sum_by (λ (partition : PartConf). length partition.nodes) partitions

-- a slurm.conf counts its bytes, 512 for each node, and 4 for each that a partition names
abbrev pub conf_listed : ConfView → ℕ → ℕ
conf_listed conf bytes = 256 + (bytes + (512 * length conf.nodes + 4 * nodes_listed conf.partitions))

-- the size of an entry: a submission's with 4 for each node that it names
abbrev pub size_of : Request → ℕ
size_of (Submit desc) = 2048 + 4 * (length desc.required + length desc.excluded)
size_of (Cancel targets) = listing (targets_listed targets)
size_of (Hold targets user) = listing (length targets)
size_of (Release targets) = listing (length targets)
size_of (Requeue target) = listing 1
size_of (UpdateJob target limit nice) = listing 1
size_of (UpdateNode nodes state) = listing (length nodes)
size_of (UpdatePartition name state) = listing 1
size_of (CreateReservation desc) = listing (reservation_listed desc)
size_of (DeleteReservation name) = listing 1
size_of (Report report) = listing (1 + (length report.running + length report.done))
size_of Pass = listing 0
size_of Shutdown = shutdown_size
size_of (Reconfigure conf bytes) = conf_listed conf bytes
size_of (Show query) = listing 0

abbrev pub is_shutdown : Request → Bool
is_shutdown Shutdown = true
is_shutdown request = false

-- the history can take it; a shutdown it always takes
abbrev pub has_room : State → Request → Bool
has_room s request = is_shutdown request || nat_le (s.size + size_of request) last_size
