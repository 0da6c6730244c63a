-- Those so far have moved.
use Rattle.std.proofs.Common.{◌≡◌}
use Rattle.node_state.specs.Moving.{reservation_moved}
use Rattle.node_state.proofs.Moved.{walked}
use Rattle.node_state.proofs.reservations.move_all.Given as goal

abbrev pub invariant-loop-reservation : goal.invariant-loop-reservation
invariant-loop-reservation l =
    l.reservations ≡ walked (reservation_moved l.origins) l.reservation-index l.fn.reservations
