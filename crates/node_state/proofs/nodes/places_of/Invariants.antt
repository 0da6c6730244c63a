-- The places of the nodes so far.
use Rattle.std.proofs.Common.{◌≡◌, ℕ, List, take, bytes_eq}
use Rattle.std.specs.HashMap.{get}
use Rattle.node_state.specs.Nodes.{place_named}
use Rattle.node_state.proofs.nodes.places_of.Given as goal

abbrev pub invariant-loop-place : goal.invariant-loop-place
invariant-loop-place l = (name : List ℕ) → get bytes_eq l.places name ≡ place_named name (take l.place l.records)
