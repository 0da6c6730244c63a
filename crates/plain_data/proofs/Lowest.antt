-- The lowest numbers that aren't in a list.
use Rattle.std.proofs.Common.{◌≡◌, ℕ, ◌+◌, ◌-◌, ◌<◌, ◌≤◌, true, false, cond, not, List, [], ◌∷◌, ◌++◌, length, take, All, refl, sym, ap, ◌∙◌, arith}
use Rattle.std.proofs.lemmas.List.{append-nil, length-append, length-take, take-append-le, take_all}
use Rattle.std.proofs.lemmas.List.Elements.{All-take}
use Rattle.plain_data.specs.Rows.{has_id, others_below}
use Rattle.plain_data.proofs.Ranges.{filter-range_append}
use Rattle.plain_data.proofs.Rising.{below-range}

pub others-none : (ids : List ℕ) → others_below 0 ids ≡ []
unfolding others_below
others-none ids = refl

others-more : (ids : List ℕ) (number : ℕ) → others_below (number + 1) ids ≡ others_below number ids ++ cond (not (has_id ids number)) (number ∷ []) []
unfolding others_below
others-more ids number = filter-range_append (λ number. not (has_id ids number)) number 1

others-low : (ids : List ℕ) (number : ℕ) → All (λ id. id < number) (others_below number ids)
unfolding others_below
others-low ids number = below-range (λ number. not (has_id ids number)) number

-- the lowest of those below a number, and how many are wanted still
pub record AreLowest (ids : List ℕ) (number count wanted : ℕ) (lowest : List ℕ) : Type 0 where
  pub taken : lowest ≡ take count (others_below number ids)
  pub left : wanted + length lowest ≡ count

pub lowest-low : {ids lowest : List ℕ} {number count wanted : ℕ} → AreLowest ids number count wanted lowest → All (λ id. id < number) lowest
lowest-low {ids} {number = number} {count = count} are = rw are.taken (All-take (λ id. id < number) count (others_below number ids) (others-low ids number))

-- one more that isn't there
pub lowest-more : {ids lowest : List ℕ} {number count wanted : ℕ} → AreLowest ids number count wanted lowest → 0 < wanted → has_id ids number ≡ false → AreLowest ids (number + 1) count (wanted - 1) (lowest ++ number ∷ [])
lowest-more {ids} {lowest} {number} {count} {wanted} are some free =
    let whole : length (others_below number ids) ≤ count = short count (others_below number ids) (omega (arith, are.left, ap length are.taken)) in
    let all : lowest ≡ others_below number ids = are.taken ∙ take_all count (others_below number ids) whole in
    record {
      taken = rw (others-more ids number, free, all) (sym (take_all count (others_below number ids ++ number ∷ []) (rw (length-append (others_below number ids) (number ∷ [])) (omega (arith, some, are.left, ap length all)))));
      left = rw (length-append lowest (number ∷ [])) (omega (arith, are.left));
    } where
      short : (n : ℕ) (xs : List ℕ) → length (take n xs) < n → length xs ≤ n
      short n xs less = omega (arith, length-take n xs)

-- one that is there
pub lowest-held : {ids lowest : List ℕ} {number count wanted : ℕ} → AreLowest ids number count wanted lowest → has_id ids number ≡ true → AreLowest ids (number + 1) count wanted lowest
lowest-held {ids} {lowest} {number} {count} {wanted} are held = record {
  taken = rw (others-more ids number, held, append-nil (others_below number ids)) are.taken;
  left = are.left;
}

-- enough of them
pub lowest-full : {ids lowest : List ℕ} {number count wanted : ℕ} → AreLowest ids number count wanted lowest → wanted ≡ 0 → AreLowest ids (number + 1) count wanted lowest
lowest-full {ids} {lowest} {number} {count} {wanted} are full = record {
  taken = rw (others-more ids number, take-append-le count (others_below number ids) (cond (not (has_id ids number)) (number ∷ []) []) (omega (arith, are.left, full, ap length are.taken, length-take count (others_below number ids)))) are.taken;
  left = are.left;
}
