use Rattle.plain_data.specs.Rows.{has_id}
use Rattle.node_state.specs.declared.reservation_record.Reservation.{Reservation}
use Rattle.ctl_reconfigure.proofs.Anys.{any-grown}
use Rattle.ctl_reconfigure.proofs.blocking.places_of_reservations.Goals as goal

pub loop-reservation-preserved : goal.loop-reservation-preserved
loop-reservation-preserved c = λ place.
    any-grown (λ (one : Reservation). has_id one.nodes place) c.args.reservations.now c.loop-reservation.reservation-index
    c.reservation-item.result _ _ c.loop-reservation-test.true c.reservation-item.is (c.loop-reservation.invariant place)
    (c.insert_all.ensures place)
