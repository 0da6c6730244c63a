-- Reservations whose nodes are at other places.
use Rattle.std.proofs.Common.{◌≡◌, ℕ, zero, suc, ◌+◌, ◌<◌, ◌≤◌, Bool, cond, List, [], ◌∷◌, ◌++◌, length, map, take, drop, set, get_or, filter, All, refl, ap, ◌∙◌, arith, add-one}
use Rattle.std.specs.List.{range_with_len}
use Rattle.std.proofs.lemmas.List.{map-id}
use Rattle.std.proofs.lemmas.List.Elements.{All-filter}
use Rattle.std.proofs.lemmas.List.FromFn.{filter_of_map_range_with_len_more, get_or-range_with_len, length-range_with_len}

-- a list of which the members before a place have become this of them
abbrev pub walked : {X : Type 0} → (X → X) → ℕ → List X → List X
walked f place xs = map f (take place xs) ++ drop place xs

-- one more of them
pub walked-more : {X : Type 0} (f : X → X) (place : ℕ) (xs : List X) (d : X) → place < length xs
    → set (walked f place xs) place (f (get_or (walked f place xs) place d)) ≡ walked f (place + 1) xs
walked-more f place [] d inside = absurd (omega (arith, inside))
walked-more f zero (x ∷ xs) d inside = refl
walked-more f (suc place) (x ∷ xs) d inside =
    rw add-one (ap (λ rest. f x ∷ rest) (walked-more f place xs d (omega (arith, inside)) ∙ rw add-one refl))

pub walked-all : {X : Type 0} (f : X → X) (place : ℕ) (xs : List X) → length xs ≤ place → walked f place xs ≡ map f xs
walked-all f zero [] past = refl
walked-all f zero (x ∷ xs) past = absurd (omega (arith, past))
walked-all f (suc place) [] past = refl
walked-all f (suc place) (x ∷ xs) past = ap (λ rest. f x ∷ rest) (walked-all f place xs (omega (arith, past)))

pub length-walked : {X : Type 0} (f : X → X) (place : ℕ) (xs : List X) → length (walked f place xs) ≡ length xs
length-walked f zero xs = refl
length-walked f (suc place) [] = refl
length-walked f (suc place) (x ∷ xs) = ap suc (length-walked f place xs)

-- ---- rows of places so far

-- one place more
pub row-more : (test : ℕ → Bool) (k : ℕ)
    → filter test (range_with_len 0 (k + 1)) ≡ filter test (range_with_len 0 k) ++ cond (test k) (k ∷ []) []
row-more test k =
    rw (map-id (range_with_len 0 (k + 1)), map-id (range_with_len 0 k))
    at (filter_of_map_range_with_len_more test (λ number. number) 0 k k (omega arith))

-- all of them are below the next one
pub row-below : (test : ℕ → Bool) (k : ℕ) → All (λ place. place < k) (filter test (range_with_len 0 k))
row-below test k =
    All-filter test (λ place. place < k) (range_with_len 0 k)
    (λ i d below.
    let inside : i < k = rw (length-range_with_len 0 k) at below in
    rw (get_or-range_with_len 0 k i d inside) (omega (arith, inside)))
