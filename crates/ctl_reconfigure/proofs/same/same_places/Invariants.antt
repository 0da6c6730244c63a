-- What is left of the places is to be those of the names that are left.
use Rattle.std.proofs.Common.{◌≡◌, drop}
use Rattle.std.specs.Prelude.{nat_eq}
use Rattle.std.specs.Cmp.Lexicographic.{pointwise}
use Rattle.node_state.specs.Partitions.{places_of}
use Rattle.ctl_reconfigure.proofs.same.same_places.Given as goal

abbrev pub invariant-loop-name : goal.invariant-loop-name
invariant-loop-name l =
    pointwise nat_eq l.places (places_of l.nodes.records l.names)
    ≡ pointwise nat_eq l.rest (places_of l.nodes.records (drop l.name-index l.names))
