-- Rows of words of 64 bits, and the numbers that they stand for.
use Rattle.std.proofs.Common.{◌≡◌, ◌⊎◌, inl, inr, ℕ, zero, suc, ◌+◌, ◌-◌, ◌*◌, ◌/◌, ◌%◌, ◌^◌, ◌<◌, ◌≤◌, min, max, Bool, true, false, cond, not, ltb, eqb, ◌&&◌, ◌||◌, List, [], ◌∷◌, ◌++◌, length, get_or, set, replicate, pow-suc, All, AllPairs, bit_and, bit_or, w64, refl, sym, ap, ◌∙◌, arith, count_ones}
use Rattle.std.specs.Int.{bit_at, bit_not}
use Rattle.std.specs.List.{filter, range_with_len}
use lib.Count.{ones_step, ones-le}
use lib.Seq.{ext_get_or}
use Rattle.std.proofs.lemmas.Bool.{cases_eq, eq-eqb, ne_eqb, lt-ltb, le-ltb, cases_lt}
use Rattle.std.proofs.lemmas.Bool.Decides.{nat_tests}
use Rattle.std.proofs.lemmas.List.{length-append, get_or-set_same, get_or-set_other}
use Rattle.std.proofs.lemmas.Nat.Bits.{bit_at_lowest, bit_at-suc, bit_at_set_same, bit_at_set_other, bit_at_and, bit_at_or, bit_at_not, bit_at-lt, bit_at-zero, same_from_bits_below}
use Rattle.plain_data.specs.Rows.{is_set, row_width, ids_of, has_id}
use Rattle.plain_data.proofs.Ranges.{has_id-inside, filter-range_same, filter-range_none, filter-range_append}
use Rattle.plain_data.proofs.Rising.{below-range, rising-range, range-with_last, same-tests}

pub width : row_width ≡ 1024
unfolding row_width
width = refl

ids_of-is : (words : List ℕ) → ids_of words ≡ filter (is_set words) (range_with_len 0 row_width)
unfolding ids_of
ids_of-is words = refl

-- the numbers of a row are those below 1,024 whose bits are set
pub has_id-row : (words : List ℕ) (k : ℕ) → has_id (ids_of words) k ≡ (ltb k 1024 && is_set words k)
has_id-row words k = rw (ids_of-is words, has_id-inside (is_set words) row_width k, width) refl

pub has_id-low : (words : List ℕ) (k : ℕ) → k < 1024 → has_id (ids_of words) k ≡ is_set words k
has_id-low words k low = rw (has_id-row words k, lt-ltb k 1024 low) refl

pub has_id-high : (words : List ℕ) (k : ℕ) → 1024 ≤ k → has_id (ids_of words) k ≡ false
has_id-high words k high = rw (has_id-row words k, le-ltb k 1024 high) refl

pub row-rises : (words : List ℕ) → AllPairs (λ x y. x < y) (ids_of words)
row-rises words = rw (ids_of-is words) (rising-range (is_set words) 0 row_width)

pub row-small : (words : List ℕ) → All (λ k. k < 1024) (ids_of words)
row-small words = rw (ids_of-is words, ← width) (below-range (is_set words) row_width)

-- a row in which no bit is set
pub row-none : (words : List ℕ) → ((k : ℕ) → get_or words k 0 ≡ 0) → ids_of words ≡ []
row-none words zeros = rw (ids_of-is words) (filter-range_none (is_set words) 0 row_width (λ k above below. rw (zeros (k / 64), bit_at-zero (k % 64)) refl))

pub zeros : (n k : ℕ) → get_or {A = ℕ} (replicate n 0) k 0 ≡ 0
zeros zero k = refl
zeros (suc n) zero = refl
zeros (suc n) (suc k) = zeros n k

-- ---- rows with the same numbers

-- words of 64 bits, sixteen of them
pub record IsRow (words : List ℕ) : Type 0 where
  pub long : length words ≡ 16
  pub fit : (k : ℕ) → get_or words k 0 < 2 ^ 64

place-div : (i j : ℕ) → j < 64 → (64 * i + j) / 64 ≡ i
place-div i j low = omega arith

place-mod : (i j : ℕ) → j < 64 → (64 * i + j) % 64 ≡ j
place-mod i j low = omega arith

bits-same : (a b : ℕ) → a < 2 → b < 2 → eqb a 1 ≡ eqb b 1 → a ≡ b
bits-same a b one other same = grind (arith, nat_tests)

pub same-words : (one other : List ℕ) → IsRow one → IsRow other → ids_of one ≡ ids_of other → one ≡ other
same-words one other fits fits' same = ext_get_or 0 one other (fits.long ∙ sym fits'.long) word where
  tests : (k : ℕ) → k < row_width → is_set one k ≡ is_set other k
  tests k inside = same-tests (is_set one) (is_set other) row_width k (sym (ids_of-is one) ∙ same ∙ ids_of-is other) inside

  bit : (i j : ℕ) → i < 16 → j < 64 → bit_at (get_or one i 0) j ≡ bit_at (get_or other i 0) j
  bit i j low inside = bits-same _ _ (bit_at-lt (get_or one i 0) j) (bit_at-lt (get_or other i 0) j) (rw (place-div i j inside, place-mod i j inside) at (tests (64 * i + j) (rw width (omega arith))))

  word : (i : ℕ) → i < length one → get_or one i 0 ≡ get_or other i 0
  word i inside = same_from_bits_below 64 _ _ (fits.fit i) (fits'.fit i) (λ j below. bit i j (omega (arith, fits.long)) below)

-- ---- changes of a row

-- the bit of a number set
pub is_set-set : (words : List ℕ) (number other : ℕ) → length words ≡ 16 → number < 1024
    → is_set (set words (number / 64) (bit_or (get_or words (number / 64) 0) (1 * 2 ^ (number % 64) % 2 ^ 64))) other ≡ (is_set words other || eqb number other)
is_set-set words number other long inside = elim (cases_eq (other / 64) (number / 64)) as (λ _. is_set (set words (number / 64) (bit_or (get_or words (number / 64) 0) (1 * 2 ^ (number % 64) % 2 ^ 64))) other ≡ (is_set words other || eqb number other)) [
  | inl same ↦ rw (same, get_or-set_same words (number / 64) (bit_or (get_or words (number / 64) 0) (1 * 2 ^ (number % 64) % 2 ^ 64)) 0 (omega (arith, long))) (bit (cases_eq (other % 64) (number % 64)) same)
  | inr differ ↦ rw (get_or-set_other words (number / 64) (other / 64) (bit_or (get_or words (number / 64) 0) (1 * 2 ^ (number % 64) % 2 ^ 64)) 0 differ, ne_eqb number other (λ e. differ (ap (λ k. k / 64) (sym e)))) (or-false _)
] where
  or-false : (b : Bool) → b ≡ (b || false)
  or-false true = refl
  or-false false = refl

  or-true : (b : Bool) → true ≡ (b || true)
  or-true true = refl
  or-true false = refl

  bit : (other % 64 ≡ number % 64) ⊎ (other % 64 ≡ number % 64 → ⊥) → other / 64 ≡ number / 64
      → eqb (bit_at (bit_or (get_or words (number / 64) 0) (1 * 2 ^ (number % 64) % 2 ^ 64)) (other % 64)) 1 ≡ (eqb (bit_at (get_or words (number / 64) 0) (other % 64)) 1 || eqb number other)
  bit (inl same) word = rw (same, bit_at_set_same w64 (get_or words (number / 64) 0) (number % 64) (omega arith), eq-eqb number other (omega (arith, same, word))) (or-true _)
  bit (inr differ) word = rw (bit_at_set_other w64 (get_or words (number / 64) 0) (number % 64) (omega arith) (other % 64) differ, ne_eqb number other (λ e. differ (ap (λ k. k % 64) (sym e)))) (or-false _)

-- the row with the bit of a number set
abbrev pub with_set : List ℕ → ℕ → List ℕ
with_set words number = set words (number / 64) (bit_or (get_or words (number / 64) 0) (1 * 2 ^ (number % 64) % 2 ^ 64))

pub has_id-with_set : (words : List ℕ) (number other : ℕ) → length words ≡ 16 → number < 1024 → has_id (ids_of (with_set words number)) other ≡ (has_id (ids_of words) other || eqb number other)
has_id-with_set words number other long inside = rw (has_id-row (with_set words number) other, has_id-row words other, is_set-set words number other long inside) (at (is_set words other)) where
  at : (b : Bool) → (ltb other 1024 && (b || eqb number other)) ≡ ((ltb other 1024 && b) || eqb number other)
  at true = grind (arith, nat_tests)
  at false = grind (arith, nat_tests)

pub last-with_set : (words : List ℕ) (number : ℕ) → length words ≡ 16 → number < 1024 → All (λ k. k < number) (ids_of words) → ids_of (with_set words number) ≡ ids_of words ++ number ∷ []
last-with_set words number long inside low = rw (ids_of-is (with_set words number), ids_of-is words)
    (range-with_last (is_set words) (is_set (with_set words number)) number row_width (rw width inside) (rw ids_of-is at low) (λ k below. is_set-set words number k long inside))

max-bits : (a b : ℕ) → a < 2 → b < 2 → eqb (max a b) 1 ≡ (eqb a 1 || eqb b 1)
max-bits a b one other = grind (arith, nat_tests)

min-bits : (a b : ℕ) → a < 2 → b < 2 → eqb (min a (1 - b)) 1 ≡ (eqb a 1 && not (eqb b 1))
min-bits a b one other = grind (arith, nat_tests)

-- each bit is set that is set in one of two rows
pub has_id-or : (one other both : List ℕ) → ((k : ℕ) → k < 16 → get_or both k 0 ≡ bit_or (get_or one k 0) (get_or other k 0))
    → (number : ℕ) → has_id (ids_of both) number ≡ (has_id (ids_of one) number || has_id (ids_of other) number)
has_id-or one other both words number = elim (cases_lt number 1024) as (λ _. has_id (ids_of both) number ≡ (has_id (ids_of one) number || has_id (ids_of other) number)) [
  | inl low ↦ rw (has_id-low both number low, has_id-low one number low, has_id-low other number low, words (number / 64) (omega arith), bit_at_or (get_or one (number / 64) 0) (get_or other (number / 64) 0) (number % 64))
      (max-bits _ _ (bit_at-lt _ _) (bit_at-lt _ _))
  | inr high ↦ rw (has_id-high both number high, has_id-high one number high, has_id-high other number high) refl
]

-- each bit is set that is set in one row and not in the other
pub has_id-and_not : (one other rest : List ℕ) → ((k : ℕ) → get_or other k 0 < 2 ^ 64) → ((k : ℕ) → k < 16 → get_or rest k 0 ≡ bit_and (get_or one k 0) (bit_not w64 (get_or other k 0)))
    → (number : ℕ) → has_id (ids_of rest) number ≡ (has_id (ids_of one) number && not (has_id (ids_of other) number))
has_id-and_not one other rest fit words number = elim (cases_lt number 1024) as (λ _. has_id (ids_of rest) number ≡ (has_id (ids_of one) number && not (has_id (ids_of other) number))) [
  | inl low ↦ rw (
    has_id-low rest number low,
    has_id-low one number low,
    has_id-low other number low,
    words (number / 64) (omega arith),
    bit_at_and (get_or one (number / 64) 0) (bit_not w64 (get_or other (number / 64) 0)) (number % 64),
    bit_at_not w64 (get_or other (number / 64) 0) (number % 64) (fit (number / 64)) (omega arith),
  )
      (min-bits _ _ (bit_at-lt _ _) (bit_at-lt _ _))
  | inr high ↦ rw (has_id-high rest number high, has_id-high one number high) refl
]

-- ---- how many numbers

-- as many numbers as bits are set
count-bits : (word n a : ℕ) → word < 2 ^ n → length (filter (λ k. eqb (bit_at word (k - a)) 1) (range_with_len a n)) ≡ count_ones word
count-bits word zero a fits = omega (arith, ones-le 0 word fits)
count-bits word (suc n) a fits =
    let shifted : filter (λ k. eqb (bit_at word (k - a)) 1) (range_with_len (a + 1) n) ≡ filter (λ k. eqb (bit_at (word / 2) (k - (a + 1))) 1) (range_with_len (a + 1) n)
    = filter-range_same _ _ (a + 1) n (λ k above below. rw (shift k above, bit_at-suc word (k - (a + 1))) refl) in
    let first : a - a ≡ 0 = omega arith in
    rw (first, bit_at_lowest word, shifted, ones_step word) (at (word % 2) (omega arith) _ (count-bits (word / 2) n (a + 1) (half fits))) where
      half : word < 2 ^ suc n → word / 2 < 2 ^ n
      half fits = omega (arith, pow-suc 2 n, fits)

      shift : (k : ℕ) → a + 1 ≤ k → k - a ≡ suc (k - (a + 1))
      shift k above = omega arith

      at : (b : ℕ) → b < 2 → (rest : List ℕ) → length rest ≡ count_ones (word / 2) → length (cond (eqb b 1) (a ∷ rest) rest) ≡ b + count_ones (word / 2)
      at zero bit rest long = omega (arith, long)
      at (suc zero) bit rest long = omega (arith, long)
      at (suc (suc b)) bit rest long = absurd (omega arith)

-- the numbers of one word more
pub count-more : (words : List ℕ) (place : ℕ) → get_or words place 0 < 2 ^ 64 → length (filter (is_set words) (range_with_len 0 (64 * (place + 1)))) ≡ length (filter (is_set words) (range_with_len 0 (64 * place))) + count_ones (get_or words place 0)
count-more words place fits =
    let word : filter (is_set words) (range_with_len (64 * place) 64) ≡ filter (λ k. eqb (bit_at (get_or words place 0) (k - 64 * place)) 1) (range_with_len (64 * place) 64)
    = filter-range_same (is_set words) (λ k. eqb (bit_at (get_or words place 0) (k - 64 * place)) 1) (64 * place) 64 (λ k above below. rw (quotient k above below, rest k above below) refl) in
    let more : 64 * (place + 1) ≡ 64 * place + 64 = omega arith in
    rw (more, filter-range_append (is_set words) (64 * place) 64) (last (filter (is_set words) (range_with_len 0 (64 * place))) _ (ap length word ∙ count-bits (get_or words place 0) 64 (64 * place) fits)) where
      quotient : (k : ℕ) → 64 * place ≤ k → k < 64 * place + 64 → k / 64 ≡ place
      quotient k above below = omega arith

      rest : (k : ℕ) → 64 * place ≤ k → k < 64 * place + 64 → k % 64 ≡ k - 64 * place
      rest k above below = omega arith

      last : (front back : List ℕ) → length back ≡ count_ones (get_or words place 0) → length (front ++ back) ≡ length front + count_ones (get_or words place 0)
      last front back long = rw (length-append front back, long) refl

pub count-all : (words : List ℕ) (place : ℕ) → place ≡ 16 → length (filter (is_set words) (range_with_len 0 (64 * place))) ≡ length (ids_of words)
count-all words place all =
    let whole : 64 * place ≡ row_width = rw (all, width) refl in
    rw (whole, ids_of-is words) refl

-- the numbers that are in the row are the row
pub row-filtered : (words : List ℕ) → filter (has_id (ids_of words)) (range_with_len 0 row_width) ≡ ids_of words
row-filtered words = filter-range_same (has_id (ids_of words)) (is_set words) 0 row_width (λ k above below. has_id-low words k (rw width at below)) ∙ sym (ids_of-is words)
