-- What is shown, whatever the sum of sizes.
use Rattle.std.proofs.Common.{ℕ, ◌≡◌, List, refl}
use Rattle.request_data.specs.declared.query.Query.{Query}
use Rattle.request_data.specs.declared.query.Query.TheVariants.{Squeue, Sinfo, Sprio, ShowJob, ShowNode, ShowPartition, ShowReservation}
use Rattle.ctl_state.specs.State.{State}
use Rattle.ctl_waiting.specs.Candidates.{candidates}
use Rattle.ctl_waiting.specs.FairShare.{rank_at, user_count, user_usage}
use Rattle.ctl_waiting.specs.Priority.{all_cpus, greatest_factor, greatest_qos, parts_of}
use Rattle.ctl_waiting.specs.Rank.{is_higher}
use Rattle.ctl_waiting.specs.Reasons.{hindrance}
use Rattle.ctl_waiting.specs.Usage.{usage_at}
use Rattle.ctl_show.specs.Records.{node_row, node_rows, partition_row}
use Rattle.ctl_show.specs.Showing.{highest, is_shown, priority_row_of, row_of, show_refusals, view_of}
use Rattle.ctl_show.specs.Standing.{names_standing, rows_of_partition, state_rows}
use Rattle.saved_laws.specs.Rooms.{sized}

pub show_refusals_sized : (size : ℕ) (s : State) (query : Query) → show_refusals (sized size s) query ≡ show_refusals s query
show_refusals_sized size s (Squeue query) = refl
show_refusals_sized size s (Sinfo partition titles) = refl
show_refusals_sized size s (Sprio who jobs titles) = refl
show_refusals_sized size s (ShowJob target) = refl
show_refusals_sized size s (ShowNode name) = refl
show_refusals_sized size s (ShowPartition name) = refl
show_refusals_sized size s (ShowReservation name) = refl

pub view_of_sized : (size : ℕ) (s : State) (now : ℕ) (user : List ℕ) (query : Query)
    → view_of (sized size s) now user query ≡ view_of s now user query
unfolding view_of row_of is_shown priority_row_of highest node_row node_rows partition_row names_standing rows_of_partition state_rows candidates hindrance is_higher parts_of rank_at user_usage usage_at user_count all_cpus greatest_factor greatest_qos
view_of_sized size s now user (Squeue query) = refl
view_of_sized size s now user (Sinfo partition titles) = refl
view_of_sized size s now user (Sprio who jobs titles) = refl
view_of_sized size s now user (ShowJob target) = refl
view_of_sized size s now user (ShowNode name) = refl
view_of_sized size s now user (ShowPartition name) = refl
view_of_sized size s now user (ShowReservation name) = refl
