use Rattle.std.proofs.Common.{◌≡◌, take, map, filter}
use Rattle.reply_data.specs.declared.view.Row.TheVariants as shown
use Rattle.node_state.specs.declared.reservation_record.Reservation.{Reservation}
use Rattle.ctl_show.specs.Records.{is_meant, reservation_row}
use Rattle.ctl_show.proofs.shown_reservations.reservation_rows.Given as goal

abbrev pub invariant-loop-reservation : goal.invariant-loop-reservation
invariant-loop-reservation l =
    l.rows.items ≡ map (λ (one : Reservation). shown.Reservation (reservation_row l.cluster.nodes.records one))
    (filter (is_meant l.asked) (take l.reservation-index l.cluster.reservations))
