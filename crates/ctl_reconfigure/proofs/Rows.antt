-- Rows of places: what two have in common, and what a filter leaves of one.
use Rattle.std.proofs.Common.{◌≡◌, ℕ, zero, suc, ◌+◌, ◌<◌, ◌≤◌, Bool, true, false, cond, eqb, List, [], ◌∷◌, filter, ◌||◌, refl, arith, inl, inr}
use Rattle.std.specs.List.{list_any, range_with_len}
use Rattle.std.proofs.lemmas.Bool.{cases_Bool, eqb-true, eqb-false, eq-eqb, or_cases, or_left, or_right}
use Rattle.plain_data.specs.Rows.{has_id}
use Rattle.node_state.specs.Reservations.{shares}

-- a place that both have
pub in-both : (one other : List ℕ) → shares one other ≡ true
    → (place : ℕ) × (has_id one place ≡ true) × (has_id other place ≡ true)
in-both [] other some = absurd (let never = some in cc)
in-both (place ∷ rest) other some = elim (or_cases (has_id other place) (shares rest other) some) [
  | inl here ↦ (place, or_left (eqb place place) (has_id rest place) (eq-eqb place place refl), here)
  | inr later ↦
      let (found, mine, theirs) = in-both rest other later in
      (found, or_right (eqb place found) (has_id rest found) mine, theirs)
]

pub shares-from : (one other : List ℕ) (place : ℕ) → has_id one place ≡ true → has_id other place ≡ true
    → shares one other ≡ true
shares-from [] other place mine theirs = absurd (let never = mine in cc)
shares-from (first ∷ rest) other place mine theirs = elim (or_cases (eqb first place) (has_id rest place) mine) [
  | inl here ↦ or_left (has_id other first) (shares rest other) (rw (eqb-true first place here) theirs)
  | inr later ↦ or_right (has_id other first) (shares rest other) (shares-from rest other place later theirs)
]

-- what a filter leaves passes, and was there
pub passes-in : (test : ℕ → Bool) (row : List ℕ) (place : ℕ) → has_id (filter test row) place ≡ true
    → test place ≡ true
passes-in test [] place has = absurd (let never = has in cc)
passes-in test (first ∷ rest) place has = elim (cases_Bool (test first)) [
  | inl passes ↦ elim (or_cases (eqb first place) (has_id (filter test rest) place) (rw passes at has)) [
    | inl here ↦ rw (← eqb-true first place here) passes
    | inr later ↦ passes-in test rest place later
  ]
  | inr fails ↦ passes-in test rest place (rw fails at has)
]

pub was-in : (test : ℕ → Bool) (row : List ℕ) (place : ℕ) → has_id (filter test row) place ≡ true
    → has_id row place ≡ true
was-in test [] place has = absurd (let never = has in cc)
was-in test (first ∷ rest) place has = elim (cases_Bool (test first)) [
  | inl passes ↦ elim (or_cases (eqb first place) (has_id (filter test rest) place) (rw passes at has)) [
    | inl here ↦ or_left (eqb first place) (has_id rest place) here
    | inr later ↦ or_right (eqb first place) (has_id rest place) (was-in test rest place later)
  ]
  | inr fails ↦ or_right (eqb first place) (has_id rest place) (was-in test rest place (rw fails at has))
]

-- a filter leaves what was there and passes
pub left-in : (test : ℕ → Bool) (row : List ℕ) (place : ℕ) → has_id row place ≡ true → test place ≡ true
    → has_id (filter test row) place ≡ true
left-in test [] place has passes = absurd (let never = has in cc)
left-in test (first ∷ rest) place has passes = elim (or_cases (eqb first place) (has_id rest place) has) [
  | inl here ↦
      let stays : test first ≡ true = rw (eqb-true first place here) passes in
      rw stays (or_left (eqb first place) (has_id (filter test rest) place) here)
  | inr later ↦ elim (cases_Bool (test first)) [
    | inl stays ↦ rw stays (or_right (eqb first place) (has_id (filter test rest) place) (left-in test rest place later passes))
    | inr goes ↦ rw goes (left-in test rest place later passes)
  ]
]

-- a range has the places that are in it, and these alone
pub in-range : (low count place : ℕ) → low ≤ place → place < low + count → has_id (range_with_len low count) place ≡ true
in-range low zero place from below = absurd (omega (arith, from, below))
in-range low (suc count) place from below = elim (cases_Bool (eqb low place)) [
  | inl here ↦ or_left (eqb low place) (has_id (range_with_len (low + 1) count) place) here
  | inr other ↦
      let past : low + 1 ≤ place = omega (arith, from, eqb-false low place other) in
      or_right (eqb low place) (has_id (range_with_len (low + 1) count) place)
      (in-range (low + 1) count place past (omega (arith, below)))
]

pub range-bounds : (low count place : ℕ) → has_id (range_with_len low count) place ≡ true → (low ≤ place) × (place < low + count)
range-bounds low zero place has = absurd (let never = has in cc)
range-bounds low (suc count) place has =
    elim (or_cases (eqb low place) (has_id (range_with_len (low + 1) count) place) has) [
      | inl here ↦ (omega (arith, eqb-true low place here), omega (arith, eqb-true low place here))
      | inr later ↦ let bounds = range-bounds (low + 1) count place later in (omega (arith, bounds.0), omega (arith, bounds.1))
    ]
