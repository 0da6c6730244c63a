use Rattle.std.proofs.Common.{◌≡◌, map, take}
use Rattle.ctl_saved.specs.Saving as spec
use Rattle.ctl_saved.proofs.nodes.saved_reservations.Given as goal

abbrev pub invariant-loop-reservation : goal.invariant-loop-reservation
invariant-loop-reservation l = l.saved.items ≡ map spec.saved_reservation (take l.reservation-index l.reservations)
