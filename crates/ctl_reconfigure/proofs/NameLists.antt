-- Lists of names: where one name stands, and where the names of one list stand in another.
use Rattle.std.proofs.Common.{◌≡◌, ◌≢◌, ℕ, zero, suc, ◌+◌, ◌<◌, ◌≤◌, Bool, true, false, cond, ltb, not, List, [], ◌∷◌, length, map, get_or, All, AllPairs, Option, Some, None, bytes_eq, refl, sym, ap, ◌∙◌, arith, inl, inr}
use Rattle.std.specs.Prelude.{position, slice_get, slice_index, unwrap_or}
use Rattle.std.specs.List.{list_any, position_or_len}
use Rattle.std.proofs.lemmas.Bool.{cases_Bool, ltb-false, or_cases, or_left, or_right}
use Rattle.std.proofs.lemmas.Grind.{common_steps}
use Rattle.std.proofs.lemmas.List.{length-map, get_or-map}
use Rattle.std.proofs.lemmas.List.Quantifiers.{position-Some}
use Rattle.std.proofs.lemmas.List.Sums.{position_or_len_is}
use Rattle.std.proofs.lemmas.Slice.Eq.{bytes_eq-Decides, slice_eq-Decides}
use Rattle.node_state.specs.Reservations.{has}
use Rattle.ctl_reconfigure.specs.Names.{new_place, place_of, places_of, same_names}

-- no name stands twice
abbrev pub AreApart : List (List ℕ) → Type 0
AreApart names = AllPairs (λ (one other : List ℕ). one ≢ other) names

pub bytes-same : (one other : List ℕ) → bytes_eq one other ≡ true → one ≡ other
bytes-same one other same = (bytes_eq-Decides one other).0 same

pub same-bytes : (one other : List ℕ) → one ≡ other → bytes_eq one other ≡ true
same-bytes one other same = (bytes_eq-Decides one other).1 same

pub names-same : (one other : List (List ℕ)) → same_names one other ≡ true → one ≡ other
names-same one other same = (slice_eq-Decides bytes_eq-Decides one other (same_names one other) refl).0 same

pub same-names : (one other : List (List ℕ)) → one ≡ other → same_names one other ≡ true
same-names one other same = (slice_eq-Decides bytes_eq-Decides one other (same_names one other) refl).1 same

-- a name that is among them stands somewhere
pub stands : (names : List (List ℕ)) (name : List ℕ) → has names name ≡ true
    → (place : ℕ) × (place < length names) × (get_or names place [] ≡ name)
stands [] name has-it = absurd (let never = has-it in cc)
stands (first ∷ rest) name has-it = elim (or_cases (bytes_eq name first) (has rest name) has-it) [
  | inl here ↦ (0, omega arith, sym (bytes-same name first here))
  | inr later ↦
      let (place, inside, is) = stands rest name later in
      (suc place, omega (arith, inside), is)
]

pub has-at : (names : List (List ℕ)) (name : List ℕ) (place : ℕ) → place < length names
    → get_or names place [] ≡ name → has names name ≡ true
has-at [] name place inside is = absurd (omega (arith, inside))
has-at (first ∷ rest) name zero inside is = or_left (bytes_eq name first) (has rest name) (same-bytes name first (sym is))
has-at (first ∷ rest) name (suc place) inside is =
    or_right (bytes_eq name first) (has rest name) (has-at rest name place (omega (arith, inside)) is)

-- the place of a name that is among them has the name
position-of : (names : List (List ℕ)) (name : List ℕ) → has names name ≡ true
    → (place : ℕ) × (position (bytes_eq name) names ≡ Some place)
position-of names name has-it = elim (cases_Bool (ltb (position_or_len (bytes_eq name) names) (length names))) [
  | inl found ↦ (position_or_len (bytes_eq name) names, rw found refl)
  | inr none ↦ absurd (missing names name has-it (ltb-false (position_or_len (bytes_eq name) names) (length names) none))
]
  where
    missing : (names : List (List ℕ)) (name : List ℕ) → has names name ≡ true
        → length names ≤ position_or_len (bytes_eq name) names → ⊥
    missing [] name has-it past = let never = has-it in cc
    missing (first ∷ rest) name has-it past = elim (cases_Bool (bytes_eq name first)) [
      | inl here ↦ omega (arith, rw here at past)
      | inr other ↦ missing rest name (rw other at has-it) (omega (arith, rw other at past))
    ]

pub place-has : (names : List (List ℕ)) (name : List ℕ) → has names name ≡ true
    → (place_of names name < length names) × (get_or names (place_of names name) [] ≡ name)
place-has names name has-it =
    let (place, leads) = position-of names name has-it in
    let found = position-Some (bytes_eq name) names place [] leads in
    rw leads (found.0, sym (bytes-same name (get_or names place []) found.1))

-- where no name stands twice, a name that stands at a place leads there
pub leads-to : (names : List (List ℕ)) (place : ℕ) → AreApart names → place < length names
    → position (bytes_eq (get_or names place [])) names ≡ Some place
leads-to names place apart inside =
    let name = get_or names place [] in
    let first : position_or_len (bytes_eq name) names ≡ place =
    position_or_len_is (bytes_eq name) names place [] (omega (arith, inside))
    (λ k before. other name (get_or names k []) (λ same. apart k place [] before inside (sym same)))
    (λ within. same-bytes name name refl) in
    at (position_or_len (bytes_eq name) names) (length names) first inside
  where
    other : (one next : List ℕ) → (one ≡ next → ⊥) → bytes_eq one next ≡ false
    other one next differ = elim (cases_Bool (bytes_eq one next)) [
      | inl same ↦ absurd (differ (bytes-same one next same))
      | inr not-same ↦ not-same
    ]

    at : (n m : ℕ) → n ≡ place → place < m → cond (ltb n m) (Some n) None ≡ Some place
    at n m is below = grind (arith, common_steps)

-- what stood at a place stands at its new one
pub stands-now : (before now : List (List ℕ)) (place : ℕ) → place < length before
    → has now (get_or before place []) ≡ true
    → (new_place before now place < length now)
    × (get_or now (new_place before now place) [] ≡ get_or before place [])
stands-now before now place inside has-it = elim (cases_Bool (same_names before now)) [
  | inl same ↦ let is = names-same before now same in rw (same, ← is) (inside, refl)
  | inr other ↦
      let at : slice_index (places_of before now) place ≡ place_of now (get_or before place []) =
      get_or-map (place_of now) before place [] 0 inside in
      rw (other, at) (place-has now (get_or before place []) has-it)
]
