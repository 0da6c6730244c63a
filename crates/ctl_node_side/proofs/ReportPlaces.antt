-- A change at a place keeps the length of the list, and a walk what it hasn't reached.
use Rattle.std.proofs.Common.{ℕ, zero, suc, ◌≡◌, ◌∙◌, ◌<◌, List, [], ◌∷◌, length, get_or, All, HoldsAt, refl, ap, arith}
use Rattle.std.proofs.lemmas.Option.{get_or_from_slice_get, slice_get-get_or}
use Rattle.job_table.specs.Walks.{WalkKeepsRest, map_at, walked}

pub length_map_at : {X : Type 0} (f : X → X) (place : ℕ) (xs : List X) → length (map_at place f xs) ≡ length xs
length_map_at f place [] = refl
length_map_at f zero (x ∷ xs) = refl
length_map_at f (suc place) (x ∷ xs) = ap suc (length_map_at f place xs)

-- what held of each member holds of the next one
pub unwalked : {X : Type 0} → WalkKeepsRest X → (P : X → Type 0) (f : X → X) (place : ℕ) (xs : List X)
    → place < length xs → All P xs → HoldsAt P (walked f place xs) place
unwalked rest P f place xs below all d =
    let x = get_or xs place d in
    let there = rest f place place xs (omega arith) ∙ slice_get-get_or xs place d below in
    rw (get_or_from_slice_get (walked f place xs) place x d there) (all place d below)
