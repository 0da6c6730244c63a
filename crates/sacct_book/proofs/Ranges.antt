-- Sums over the numbers below a bound, what is written for each, and moments that follow one another.
use Rattle.std.proofs.Common.{◌≡◌, ℕ, zero, suc, ◌+◌, ◌≤◌, ◌<◌, List, [], ◌∷◌, ◌++◌, length, map, sum_by, get_or, refl, sym, ap, ◌∙◌, arith}
use Rattle.std.specs.List.{flat_map, range_with_len}
use Rattle.std.proofs.lemmas.List.{append-nil, append_assoc}
use Rattle.std.proofs.lemmas.List.Sums.{sum_by-cons}

pub range-more : (f : ℕ → ℕ) (low count : ℕ)
    → sum_by f (range_with_len low (suc count)) ≡ sum_by f (range_with_len low count) + f (low + count)
range-more f low zero =
    let same : low ≡ low + zero = omega arith in
    omega (arith, sum_by-cons f low [], ap f same)
range-more f low (suc count) =
    let same : low + 1 + count ≡ low + suc count = omega arith in
    omega (
      arith,
      sum_by-cons f low (range_with_len (low + 1) (suc count)),
      sum_by-cons f low (range_with_len (low + 1) count),
      range-more f (low + 1) count,
      ap f same,
    )

pub range-same : (f g : ℕ → ℕ) (low count : ℕ) → ((k : ℕ) → k < low + count → f k ≡ g k)
    → sum_by f (range_with_len low count) ≡ sum_by g (range_with_len low count)
range-same f g low zero same = refl
range-same f g low (suc count) same =
    omega (
      arith,
      sum_by-cons f low (range_with_len (low + 1) count),
      sum_by-cons g low (range_with_len (low + 1) count),
      same low (omega arith),
      range-same f g (low + 1) count (λ k below. same k (omega (arith, below))),
    )

pub flat_map-more : (f : ℕ → List ℕ) (low count : ℕ)
    → flat_map f (range_with_len low (suc count)) ≡ flat_map f (range_with_len low count) ++ f (low + count)
flat_map-more f low zero =
    let same : low ≡ low + zero = omega arith in
    append-nil (f low) ∙ ap f same
flat_map-more f low (suc count) =
    let same : low + 1 + count ≡ low + suc count = omega arith in
    ap (λ rest. f low ++ rest) (flat_map-more f (low + 1) count)
    ∙ sym (append_assoc (f low) (flat_map f (range_with_len (low + 1) count)) (f (low + 1 + count)))
    ∙ ap (λ n. (f low ++ flat_map f (range_with_len (low + 1) count)) ++ f n) same

-- one more moment, before now: those until it are as they were
pub moments-same : {X : Type 0} (moment : X → ℕ) (first : ℕ) (xs : List X) (x : X) (now k : ℕ) → k ≤ length xs + 1
    → get_or (first ∷ map moment (xs ++ x ∷ []) ++ now ∷ []) k 0 ≡ get_or (first ∷ map moment xs ++ moment x ∷ []) k 0
moments-same moment first [] x now zero below = refl
moments-same moment first [] x now (suc zero) below = refl
moments-same moment first [] x now (suc (suc k)) below = absurd (omega (arith, below))
moments-same moment first (y ∷ xs) x now zero below = refl
moments-same moment first (y ∷ xs) x now (suc k) below = moments-same moment (moment y) xs x now k (omega (arith, below))

-- it is the last one before now
pub moments-last : {X : Type 0} (moment : X → ℕ) (first : ℕ) (xs : List X) (x : X) (now : ℕ)
    → get_or (first ∷ map moment (xs ++ x ∷ []) ++ now ∷ []) (suc (length xs)) 0 ≡ moment x
moments-last moment first [] x now = refl
moments-last moment first (y ∷ xs) x now = moments-last moment (moment y) xs x now

pub moments-now : {X : Type 0} (moment : X → ℕ) (first : ℕ) (xs : List X) (x : X) (now : ℕ)
    → get_or (first ∷ map moment (xs ++ x ∷ []) ++ now ∷ []) (suc (suc (length xs))) 0 ≡ now
moments-now moment first [] x now = refl
moments-now moment first (y ∷ xs) x now = moments-now moment (moment y) xs x now
