use Rattle.std.proofs.Common.{◌≡◌, take, sym, refl, append-nil}
use Rattle.std.proofs.lemmas.List.{take_all}
use Rattle.reply_data.specs.declared.view.Row.TheVariants as shown
use Rattle.node_state.specs.declared.reservation_record.Reservation.{Reservation}
use Rattle.ctl_show.specs.Records.{is_meant, reservation_row}
use Rattle.ctl_show.proofs.Gathered.{map-filter-more}
use Rattle.ctl_show.proofs.shown_reservations.reservation_rows.Goals as goal
use Rattle.ctl_show.proofs.shown_reservations.reservation_rows.Goals.{then-is_meant+in_ok-row+in_ok-push, else-is_meant}

pub loop-reservation-preserved : goal.loop-reservation-preserved
loop-reservation-preserved c =
    let row = λ (one : Reservation). shown.Reservation (reservation_row c.args.cluster.now.nodes.records one) in
    let same = c.records-reservation-items.ensures.value in
    let more = rw (← c.is_meant.ensures) at
    (map-filter-more row (is_meant c.args.asked.now) c.args.cluster.now.reservations c.loop-reservation.reservation-index
    c.reservation-item.result (rw same at c.loop-reservation-test.true) (rw same at c.reservation-item.is)) in
    elim c.if-is_meant.branch [
      | then-is_meant+in_ok-row+in_ok-push w ↦
          rw (
            w.rows-is,
            w.in_ok-push.ensures.items,
            c.loop-reservation.invariant,
            w.in_ok-row.ensures,
            c.records-nodes.ensures.value,
            more,
            w.if-is_meant.true,
          ) refl
      | else-is_meant w ↦ rw (w.rows-is, c.loop-reservation.invariant, more, w.if-is_meant.false) (sym (append-nil _))
    ]

pub returns : goal.returns
returns c =
    let some = c.args.cluster.now.reservations in
    let whole : take c.loop-reservation.reservation-index some ≡ some =
    take_all c.loop-reservation.reservation-index some
    (rw c.records-reservation-items.ensures.value at c.loop-reservation-test.false) in
    rw whole at c.loop-reservation.invariant
