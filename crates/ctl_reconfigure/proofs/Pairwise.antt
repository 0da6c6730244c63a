-- Lists that are compared pair by pair.
use Rattle.std.proofs.Common.{◌≡◌, ℕ, zero, suc, ◌+◌, ◌<◌, ◌≤◌, Bool, false, true, ◌&&◌, List, [], ◌∷◌, drop, length, get_or, Option, Some, None, refl, sym, ap, ◌∙◌, arith}
use Rattle.std.specs.List.{cons_option, list_all, zip}
use Rattle.std.specs.Cmp.Lexicographic.{pointwise}
use Rattle.node_state.specs.declared.record.NodeRecord.{NodeRecord}
use Rattle.node_state.specs.Nodes.{place_named}
use Rattle.node_state.specs.Partitions.{places_of}

-- lists of one length
pub pointwise-zip : {X Y : Type 0} (same : X → Y → Bool) (xs : List X) (ys : List Y) → length xs ≡ length ys
    → list_all (λ (pair : X × Y). same pair.0 pair.1) (zip xs ys) ≡ pointwise same xs ys
pointwise-zip same [] [] e = refl
pointwise-zip same [] (y ∷ ys) e = absurd (omega (arith, e))
pointwise-zip same (x ∷ xs) [] e = absurd (omega (arith, e))
pointwise-zip same (x ∷ xs) (y ∷ ys) e = ap (λ rest. same x y && rest) (pointwise-zip same xs ys (omega (arith, e)))

-- lists of different length
pub pointwise-uneven : {X Y : Type 0} (same : X → Y → Bool) (xs : List X) (ys : List Y) → (length xs ≡ length ys → ⊥)
    → pointwise same xs ys ≡ false
pointwise-uneven same [] [] differ = absurd (differ refl)
pointwise-uneven same [] (y ∷ ys) differ = refl
pointwise-uneven same (x ∷ xs) [] differ = refl
pointwise-uneven same (x ∷ xs) (y ∷ ys) differ =
    ap (λ rest. same x y && rest) (pointwise-uneven same xs ys (λ e. differ (omega (arith, e)))) ∙ and-false (same x y)
  where
    and-false : (b : Bool) → (b && false) ≡ false
    and-false true = refl
    and-false false = refl

-- the places of the names from one on
pub places-from : (nodes : List NodeRecord) (names : List (List ℕ)) (k : ℕ) (name : List ℕ) → k < length names
    → name ≡ get_or names k name
    → places_of nodes (drop k names) ≡ cons_option (place_named name nodes) (places_of nodes (drop (k + 1) names))
places-from nodes [] k name inside is = absurd (omega (arith, inside))
places-from nodes (first ∷ rest) zero name inside is =
    ap (λ name. cons_option (place_named name nodes) (places_of nodes rest)) (sym is)
places-from nodes (first ∷ rest) (suc k) name inside is =
    let next : suc k + 1 ≡ suc (k + 1) = omega arith in
    places-from nodes rest k name (omega (arith, inside)) is
    ∙ ap (λ n. cons_option (place_named name nodes) (places_of nodes (drop n (first ∷ rest)))) (sym next)

-- those of no names
pub places-none : (nodes : List NodeRecord) (names : List (List ℕ)) (k : ℕ) → length names ≤ k
    → places_of nodes (drop k names) ≡ []
places-none nodes [] zero past = refl
places-none nodes [] (suc k) past = refl
places-none nodes (first ∷ rest) zero past = absurd (omega (arith, past))
places-none nodes (first ∷ rest) (suc k) past = places-none nodes rest k (omega (arith, past))
