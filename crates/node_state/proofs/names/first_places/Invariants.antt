-- The first places of the names so far.
use Rattle.std.proofs.Common.{◌≡◌, ℕ, List, take, bytes_eq}
use Rattle.std.specs.Prelude.{position}
use Rattle.std.specs.HashMap.{get}
use Rattle.node_state.proofs.names.first_places.Given as goal

abbrev pub invariant-loop-place : goal.invariant-loop-place
invariant-loop-place l = (name : List ℕ) → get bytes_eq l.places name ≡ position (bytes_eq name) (take l.place l.names)
