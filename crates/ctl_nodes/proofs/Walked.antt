-- A change at a place keeps the length of the list and what isn't there, and a walk what it hasn't reached.
use Rattle.std.proofs.Common.{ℕ, zero, suc, ◌≡◌, ◌∙◌, ◌<◌, List, [], ◌∷◌, length, get_or, HoldsAt, Some, refl, ap, arith}
use Rattle.std.specs.List.{slice_get}
use Rattle.std.specs.Option.{option_map, unwrap_or}
use Rattle.std.proofs.lemmas.Option.{get_or_from_slice_get, slice_get-get_or}
use Rattle.node_state.specs.declared.record.NodeRecord.{NodeRecord}
use Rattle.node_state.specs.declared.record.NodeChange.{NodeChange}
use Rattle.node_state.specs.Nodes.{change_at, changed}
use Rattle.job_table.specs.Walks.{WalkKeepsRest, map_at, walked}

pub length_map_at : {X : Type 0} (f : X → X) (place : ℕ) (xs : List X) → length (map_at place f xs) ≡ length xs
length_map_at f place [] = refl
length_map_at f zero (x ∷ xs) = refl
length_map_at f (suc place) (x ∷ xs) = ap suc (length_map_at f place xs)

-- the member at a place once it has changed
pub get_map_at : {X : Type 0} (f : X → X) (place : ℕ) (xs : List X)
    → slice_get (map_at place f xs) place ≡ option_map f (slice_get xs place)
get_map_at f place [] = refl
get_map_at f zero (x ∷ xs) = refl
get_map_at f (suc place) (x ∷ xs) = get_map_at f place xs

pub at_map_at : {X : Type 0} (P : X → Type 0) (f : X → X) (place : ℕ) (xs : List X) → place < length xs
    → HoldsAt (λ x. P (f x)) xs place → HoldsAt P (map_at place f xs) place
at_map_at P f place [] below holds d = absurd (omega (arith, below))
at_map_at P f zero (x ∷ xs) below holds d = holds d
at_map_at P f (suc place) (x ∷ xs) below holds d = at_map_at P f place xs (omega (arith, below)) holds d

-- what held of the next member holds of it
pub unwalked_at : {X : Type 0} → WalkKeepsRest X → (P : X → Type 0) (f : X → X) (place : ℕ) (xs : List X)
    → place < length xs → HoldsAt P xs place → HoldsAt P (walked f place xs) place
unwalked_at rest P f place xs below holds d =
    let x = get_or xs place d in
    let there = rest f place place xs (omega arith) ∙ slice_get-get_or xs place d below in
    rw (get_or_from_slice_get (walked f place xs) place x d there) (holds d)

-- what is counted of it, where the change makes that less
abbrev pub count_at : {X : Type 0} → (X → ℕ) → ℕ → List X → ℕ
count_at size place xs = unwrap_or (option_map size (slice_get xs place)) 0

pub less_at : {X : Type 0} (size : X → ℕ) (f : X → X) (place : ℕ) (xs : List X) (x : X) → slice_get xs place ≡ Some x
    → size (f x) < size x → count_at size place (map_at place f xs) < count_at size place xs
less_at size f place xs x is less = rw (get_map_at f place xs, is) less

-- a node that changes is a member that does
pub node_at : (place : ℕ) (change : NodeChange) (nodes : List NodeRecord)
    → change_at place change nodes ≡ map_at place (changed change) nodes
node_at place change [] = refl
node_at zero change (node ∷ later) = refl
node_at (suc place) change (node ∷ later) = ap (λ rest. node ∷ rest) (node_at place change later)
