-- The numbers of a range that pass a test.
use Rattle.std.proofs.Common.{◌≡◌, ℕ, zero, suc, ◌+◌, ◌<◌, ◌≤◌, Bool, true, false, cond, ltb, leb, eqb, ◌&&◌, ◌||◌, List, [], ◌∷◌, ◌++◌, length, refl, ap, ◌∙◌, arith}
use Rattle.std.specs.List.{filter, range_with_len}
use native.Mathlib.Nat.{add-zero, zero-add, suc-add}
use Rattle.std.proofs.lemmas.Bool.Decides.{nat_tests}
use Rattle.std.proofs.lemmas.List.Elements.{filter-append}
use Rattle.plain_data.specs.Rows.{has_id}

has_id-cond : (b : Bool) (a k : ℕ) (rest : List ℕ) → has_id (cond b (a ∷ rest) rest) k ≡ ((b && eqb a k) || has_id rest k)
has_id-cond true a k rest = refl
has_id-cond false a k rest = refl

-- which numbers of a range pass the test
pub has_id-range : (p : ℕ → Bool) (a n k : ℕ) → has_id (filter p (range_with_len a n)) k ≡ (leb a k && (ltb k (a + n) && p k))
has_id-range p a zero k = none (p k) where
  none : (c : Bool) → false ≡ (leb a k && (ltb k (a + 0) && c))
  none true = grind (arith, nat_tests)
  none false = grind (arith, nat_tests)
has_id-range p a (suc n) k = rw (has_id-cond (p a) a k (filter p (range_with_len (a + 1) n)), has_id-range p (a + 1) n k) (step (p a) (p k) (λ e. ap p e)) where
  step : (b c : Bool) → (a ≡ k → b ≡ c) → ((b && eqb a k) || (leb (a + 1) k && (ltb k (a + 1 + n) && c))) ≡ (leb a k && (ltb k (a + suc n) && c))
  step true true at = grind (arith, nat_tests)
  step true false at = grind (arith, nat_tests)
  step false true at = grind (arith, nat_tests)
  step false false at = grind (arith, nat_tests)

-- tests that agree on a range
pub filter-range_same : (p q : ℕ → Bool) (a n : ℕ) → ((k : ℕ) → a ≤ k → k < a + n → p k ≡ q k) → filter p (range_with_len a n) ≡ filter q (range_with_len a n)
filter-range_same p q a zero same = refl
filter-range_same p q a (suc n) same =
    let rest = filter-range_same p q (a + 1) n (λ k above below. same k (omega arith) (omega arith)) in
    rw (same a (omega arith) (omega arith), rest) refl

pub filter-range_none : (p : ℕ → Bool) (a n : ℕ) → ((k : ℕ) → a ≤ k → k < a + n → p k ≡ false) → filter p (range_with_len a n) ≡ []
filter-range_none p a n none = filter-range_same p (λ k. false) a n none ∙ nothing a n where
  nothing : (a n : ℕ) → filter (λ (k : ℕ). false) (range_with_len a n) ≡ []
  nothing a zero = refl
  nothing a (suc n) = nothing (a + 1) n

pub range-append : (a m n : ℕ) → range_with_len a (m + n) ≡ range_with_len a m ++ range_with_len (a + m) n
range-append a zero n = rw (zero-add n, add-zero a) refl
range-append a (suc m) n = rw (suc-add m n, range-append (a + 1) m n) (ap (λ from. a ∷ (range_with_len (a + 1) m ++ range_with_len from n)) (omega arith))

pub filter-range_append : (p : ℕ → Bool) (m n : ℕ) → filter p (range_with_len 0 (m + n)) ≡ filter p (range_with_len 0 m) ++ filter p (range_with_len m n)
filter-range_append p m n = rw (range-append 0 m n, filter-append p (range_with_len 0 m) (range_with_len (0 + m) n), zero-add m) refl

pub length-filter-range : (p : ℕ → Bool) (a n : ℕ) → length (filter p (range_with_len a n)) ≤ n
length-filter-range p a zero = omega arith
length-filter-range p a (suc n) = at (p a) (filter p (range_with_len (a + 1) n)) (length-filter-range p (a + 1) n) where
  at : (b : Bool) (rest : List ℕ) → length rest ≤ n → length (cond b (a ∷ rest) rest) ≤ suc n
  at true rest few = omega arith
  at false rest few = omega arith

pub has_id-inside : (p : ℕ → Bool) (n k : ℕ) → has_id (filter p (range_with_len 0 n)) k ≡ (ltb k n && p k)
has_id-inside p n k = rw (has_id-range p 0 n k) (at (p k)) where
  at : (b : Bool) → (leb 0 k && (ltb k (0 + n) && b)) ≡ (ltb k n && b)
  at true = grind (arith, nat_tests)
  at false = grind (arith, nat_tests)
