use Rattle.std.proofs.Common.{◌≡◌, take}
use Rattle.ctl_reconfigure.specs.Names as spec
use Rattle.ctl_reconfigure.proofs.names.places_of.Given as goal

abbrev pub invariant-loop-name : goal.invariant-loop-name
invariant-loop-name l = l.places.items ≡ spec.places_of (take l.name-index l.before) l.now
