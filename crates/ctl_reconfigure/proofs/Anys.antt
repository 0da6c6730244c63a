-- Members of lists of which something holds.
use Rattle.std.proofs.Common.{◌≡◌, ℕ, zero, suc, ◌+◌, ◌-◌, ◌<◌, ◌≤◌, Bool, true, false, cond, eqb, ltb, leb, ◌&&◌, ◌||◌, List, [], ◌∷◌, ◌++◌, length, map, take, get_or, All, Option, Some, None, refl, sym, ap, ◌∙◌, arith, inl, inr}
use Rattle.std.specs.Prelude.{count_by, find}
use Rattle.std.specs.List.{list_any, range_with_len}
use Rattle.std.proofs.lemmas.Bool.{cases_Bool, eq-eqb, eqb-true, leb-true, or_cases, or_left, or_right}
use Rattle.std.proofs.lemmas.Bool.Decides.{nat_tests}
use Rattle.std.proofs.lemmas.List.Elements.{All-head, All-tail}
use Rattle.std.proofs.lemmas.List.Folds.{list_any_more}
use Rattle.list_lemmas.proofs.Sums.{count-cons}
use Rattle.plain_data.specs.Rows.{has_id}
use Rattle.ctl_reconfigure.proofs.Rows.{in-range, range-bounds}

-- two tests that follow from one another
pub both-ways : (one other : Bool) → (one ≡ true → other ≡ true) → (other ≡ true → one ≡ true) → one ≡ other
both-ways true true to from = refl
both-ways false false to from = refl
both-ways true false to from = sym (to refl)
both-ways false true to from = from refl

-- a number of a row that passes
pub passing : (p : ℕ → Bool) (row : List ℕ) → list_any p row ≡ true
    → (number : ℕ) × (has_id row number ≡ true) × (p number ≡ true)
passing p [] some = absurd (let never = some in cc)
passing p (first ∷ rest) some = elim (or_cases (p first) (list_any p rest) some) [
  | inl here ↦ (first, or_left (eqb first first) (has_id rest first) (eq-eqb first first refl), here)
  | inr later ↦
      let (number, has, passes) = passing p rest later in
      (number, or_right (eqb first number) (has_id rest number) has, passes)
]

pub any-from : (p : ℕ → Bool) (row : List ℕ) (number : ℕ) → has_id row number ≡ true → p number ≡ true
    → list_any p row ≡ true
any-from p [] number has passes = absurd (let never = has in cc)
any-from p (first ∷ rest) number has passes = elim (or_cases (eqb first number) (has_id rest number) has) [
  | inl here ↦ or_left (p first) (list_any p rest) (rw (eqb-true first number here) passes)
  | inr later ↦ or_right (p first) (list_any p rest) (any-from p rest number later passes)
]

-- what holds of each number of a row holds of one that it has
pub each-has : (P : ℕ → Type 0) (row : List ℕ) (number : ℕ) → All P row → has_id row number ≡ true → P number
each-has P [] number all has = absurd (let never = has in cc)
each-has P (first ∷ rest) number all has = elim (or_cases (eqb first number) (has_id rest number) has) [
  | inl here ↦ rw (← eqb-true first number here) (All-head P first rest all)
  | inr later ↦ each-has P rest number (All-tail P first rest all) later
]

-- a member that passes one test, and all others that it passes
pub member : {X : Type 0} (p : X → Bool) (xs : List X) → list_any p xs ≡ true
    → (x : X) × (p x ≡ true) × ((q : X → Bool) → q x ≡ true → list_any q xs ≡ true)
member p [] some = absurd (let never = some in cc)
member p (first ∷ rest) some = elim (or_cases (p first) (list_any p rest) some) [
  | inl here ↦ (first, here, λ q passes. or_left (q first) (list_any q rest) passes)
  | inr later ↦
      let (x, passes, others) = member p rest later in
      (x, passes, λ q too. or_right (q first) (list_any q rest) (others q too))
]

-- whether one counts
pub counted : {X : Type 0} (p : X → Bool) (xs : List X) → ltb 0 (count_by p xs) ≡ list_any p xs
counted p [] = refl
counted p (x ∷ xs) = rw (count-cons p x xs) (by (p x) (count_by p xs) (list_any p xs) (counted p xs))
  where
    by : (b : Bool) (n : ℕ) (rest : Bool) → ltb 0 n ≡ rest → ltb 0 (cond b 1 0 + n) ≡ (b || rest)
    by true n rest is = grind (arith, nat_tests)
    by false n rest is = let same : 0 + n ≡ n = omega arith in ap (ltb 0) same ∙ is

-- one of the numbers is the bound or above it
pub any-above : (row : List ℕ) (bound : ℕ) → bound ≤ 1024 → All (λ number. number < 1024) row
    → list_any (has_id row) (range_with_len bound (1024 - bound)) ≡ list_any (λ number. leb bound number) row
any-above row bound within small = both-ways _ _
    (λ some.
    let (number, is, has) = passing (has_id row) (range_with_len bound (1024 - bound)) some in
    let bounds = range-bounds bound (1024 - bound) number is in
    any-from (λ number. leb bound number) row number has (is-above bound number bounds.0))
    (λ some.
    let (number, has, above) = passing (λ number. leb bound number) row some in
    let low : bound ≤ number = leb-true bound number above in
    let high : number < 1024 = each-has (λ number. number < 1024) row number small has in
    any-from (has_id row) (range_with_len bound (1024 - bound)) number
    (in-range bound (1024 - bound) number low (omega (arith, within, high))) has)
  where
    is-above : (low high : ℕ) → low ≤ high → leb low high ≡ true
    is-above low high le = grind (arith, nat_tests)

-- a search by a test that is the same on the range
pub find-same : (p q : ℕ → Bool) (low count : ℕ) → ((number : ℕ) → low ≤ number → number < low + count → p number ≡ q number)
    → find p (range_with_len low count) ≡ find q (range_with_len low count)
find-same p q low zero same = refl
find-same p q low (suc count) same =
    rw (
      same low (omega arith) (omega arith),
      find-same p q (low + 1) count (λ number from below. same number (omega (arith, from)) (omega (arith, below))),
    ) refl

-- one member more, behind the others
pub or_turn : (one two three : Bool) → ((one || two) || three) ≡ (one || (two || three))
or_turn true two three = refl
or_turn false two three = refl

pub any-grown : {X : Type 0} (p : X → Bool) (xs : List X) (k : ℕ) (x : X) (was now : Bool) → k < length xs
    → x ≡ get_or xs k x → was ≡ list_any p (take k xs) → now ≡ (was || p x) → now ≡ list_any p (take (k + 1) xs)
any-grown p xs k x was now inside is before after =
    after ∙ ap (λ b. b || p x) before ∙ ap (λ y. list_any p (take k xs) || p y) is ∙ sym (list_any_more p xs k x inside)

pub any-beside : {X : Type 0} (p : X → Bool) (xs : List X) (k : ℕ) (x : X) (first was now : Bool) → k < length xs
    → x ≡ get_or xs k x → was ≡ (first || list_any p (take k xs)) → now ≡ (was || p x)
    → now ≡ (first || list_any p (take (k + 1) xs))
any-beside p xs k x first was now inside is before after =
    after ∙ ap (λ b. b || p x) before ∙ or_turn first (list_any p (take k xs)) (p x)
    ∙ ap (λ y. first || (list_any p (take k xs) || p y)) is
    ∙ ap (λ b. first || b) (sym (list_any_more p xs k x inside))
