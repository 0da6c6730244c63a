-- The places of the names so far.
use Rattle.std.proofs.Common.{◌≡◌, take}
use Rattle.node_state.specs.Partitions as spec
use Rattle.node_state.proofs.partitions.places_of.Given as goal

abbrev pub invariant-loop-name : goal.invariant-loop-name
invariant-loop-name l = l.places.items ≡ spec.places_of l.nodes.records (take l.name-index l.names)
