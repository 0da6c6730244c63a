use Rattle.std.proofs.Common.{◌≡◌, take}
use Rattle.node_state.specs.Reservations.{lasting}
use Rattle.ctl_state.specs.Planning.{barred_of}
use Rattle.ctl_state.proofs.reserved.barred_for.Given as goal

abbrev pub invariant-loop-reservation : goal.invariant-loop-reservation
invariant-loop-reservation l =
    l.times.items ≡ barred_of (lasting l.now (take l.reservation-index l.reservations)) l.name
