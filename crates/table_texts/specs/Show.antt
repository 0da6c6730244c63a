-- The lines of scontrol: one for each record, of pairs with a blank between two.
use Rattle.std.specs.Prelude.{ℕ, List, [], flat_map}
use Rattle.reply_data.specs.declared.view.Row.{Row}
use Rattle.reply_data.specs.declared.view.Row.TheVariants as shown
use Rattle.reply_data.specs.declared.view.View.{View}
use Rattle.table_texts.specs.ShowJob.{job_line}
use Rattle.table_texts.specs.ShowNode.{node_line}
use Rattle.table_texts.specs.ShowPartition.{partition_line}
use Rattle.table_texts.specs.ShowReservation.{reservation_line}

abbrev pub record_line : Row → List ℕ
record_line (shown.Job row) = job_line row
record_line (shown.Node row) = node_line row
record_line (shown.Partition row) = partition_line row
record_line (shown.Reservation row) = reservation_line row
record_line row = []

abbrev pub show_text : View → List ℕ
show_text view = flat_map record_line view.rows
