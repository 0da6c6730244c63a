-- How many numbers there are below a bound, and sums over these.
use Rattle.std.proofs.Common.{◌≡◌, ◌≢◌, ℕ, zero, suc, ◌+◌, ◌*◌, ◌≤◌, ◌<◌, cond, eqb, false, List, [], ◌∷◌, length, sum_by, get_or, All, AllPairs, refl, ap, arith}
use Rattle.std.specs.List.{list_any, range_with_len}
use Rattle.std.proofs.lemmas.Bool.{ne_eqb}
use Rattle.std.proofs.lemmas.Bool.Decides.{nat_tests}
use Rattle.std.proofs.lemmas.List.Elements.{All-head, All-tail}
use Rattle.std.proofs.lemmas.List.Folds.{list_any_none}
use Rattle.std.proofs.lemmas.List.FromFn.{length-range_with_len, get_or-range_with_len}
use Rattle.std.proofs.lemmas.List.Sums.{sum_by-cons, sum_by-le}
use Rattle.list_lemmas.proofs.Pairs.{pairs-head, pairs-tail}
use Rattle.list_lemmas.proofs.Sums.{sum_by-add, sum_by-none, sum_by-same}

-- a weight at one number of a range that it is before, or within
range-before : (weight x low count : ℕ) → x < low
    → sum_by (λ number. cond (eqb x number) weight 0) (range_with_len low count) ≡ 0
range-before weight x low zero before = refl
range-before weight x low (suc count) before =
    grind (
      arith,
      nat_tests,
      sum_by-cons (λ number. cond (eqb x number) weight 0) low (range_with_len (low + 1) count),
      range-before weight x (low + 1) count,
    )

pub range-within : (weight x low count : ℕ) → low ≤ x → x < low + count
    → sum_by (λ number. cond (eqb x number) weight 0) (range_with_len low count) ≡ weight
range-within weight x low zero above below = absurd (omega (arith, above, below))
range-within weight x low (suc count) above below =
    let first = sum_by-cons (λ number. cond (eqb x number) weight 0) low (range_with_len (low + 1) count) in
    grind (arith, nat_tests, first, range-before weight x (low + 1) count, range-within weight x (low + 1) count)

-- the numbers below a bound that stand in a list of different ones are as many as it has, where all its numbers are
-- below the bound
pub distinct-counted : (xs : List ℕ) (bound : ℕ) → AllPairs (λ one other. one ≢ other) xs → All (λ x. x < bound) xs
    → sum_by (λ number. cond (list_any (λ x. eqb x number) xs) 1 0) (range_with_len 0 bound) ≡ length xs
distinct-counted [] bound apart below = sum_by-none (λ number. 0) (range_with_len 0 bound) (λ k d below. refl)
distinct-counted (x ∷ xs) bound apart below =
    let rest = distinct-counted xs bound (pairs-tail (λ one other. one ≢ other) x xs apart)
    (All-tail (λ y. y < bound) x xs below) in
    let first = range-within 1 x 0 bound (omega arith) (omega (arith, All-head (λ y. y < bound) x xs below)) in
    let split = sum_by-add (λ number. cond (eqb x number) 1 0) (λ number. cond (list_any (λ y. eqb y number) xs) 1 0)
    (range_with_len 0 bound) in
    let others = pairs-head (λ one other. one ≢ other) x xs apart in
    let each = sum_by-same (λ number. cond (list_any (λ y. eqb y number) (x ∷ xs)) 1 0)
    (λ number. cond (eqb x number) 1 0 + cond (list_any (λ y. eqb y number) xs) 1 0)
    (range_with_len 0 bound) (λ i e within.
    let number = get_or (range_with_len 0 bound) i e in
    let none : x ≡ number → list_any (λ y. eqb y number) xs ≡ false = λ is.
    list_any_none (λ y. eqb y number) xs (λ k d inside.
    ne_eqb (get_or xs k d) number (λ same. others k d inside (omega (arith, is, same)))) in
    grind (arith, nat_tests, none)) in
    omega (arith, rest, first, split, each)

-- a sum over the numbers below a bound, of terms that have a bound too
pub range-few : (f : ℕ → ℕ) (most bound : ℕ) → ((number : ℕ) → number < bound → f number ≤ most)
    → sum_by f (range_with_len 0 bound) ≤ most * bound
range-few f most bound few =
    omega (
      arith,
      sum_by-le f most (range_with_len 0 bound) (λ k d below.
          let inside : k < bound = omega (arith, below, length-range_with_len 0 bound) in
          few (get_or (range_with_len 0 bound) k d) (omega (arith, get_or-range_with_len 0 bound k d inside))),
      length-range_with_len 0 bound,
      ap (λ n. most * n) (length-range_with_len 0 bound),
    )
