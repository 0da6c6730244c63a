use Rattle.std.proofs.Common.{◌≡◌, bytes_eq, map, take}
use Rattle.std.specs.Prelude.{position}
use Rattle.ctl_reconfigure.proofs.names.origins_of.Given as goal

abbrev pub invariant-loop-name : goal.invariant-loop-name
invariant-loop-name l = l.origins.items ≡ map (λ name. position (bytes_eq name) l.before) (take l.name-index l.now)
