-- The reservations so far.
use Rattle.std.proofs.Common.{◌≡◌, map, take, All}
use Rattle.ctl_restore.specs.Fits.{HasSeconds}
use Rattle.ctl_restore.specs.Restored.{restored_reservation}
use Rattle.ctl_restore.proofs.reservations.restored_reservations.Given as goal

abbrev pub invariant-loop-line : goal.invariant-loop-line
invariant-loop-line l = record {
  value : l.reservations ≡ map (restored_reservation l.nodes.records) (take l.line-index l.lines);
  seconds : All HasSeconds (take l.line-index l.lines);
}
