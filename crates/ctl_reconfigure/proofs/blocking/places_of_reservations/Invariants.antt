use Rattle.std.proofs.Common.{◌≡◌, ℕ, take}
use Rattle.std.specs.List.{list_any}
use Rattle.plain_data.specs.Rows.{has_id}
use Rattle.node_state.specs.declared.reservation_record.Reservation.{Reservation}
use Rattle.ctl_reconfigure.proofs.blocking.places_of_reservations.Given as goal

abbrev pub invariant-loop-reservation : goal.invariant-loop-reservation
invariant-loop-reservation l = (place : ℕ)
    → has_id l.places place
    ≡ list_any (λ (one : Reservation). has_id one.nodes place) (take l.reservation-index l.reservations)
