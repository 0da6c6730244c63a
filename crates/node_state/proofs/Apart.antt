-- Reservations whose nodes are at other places stay apart: places that two rows have in common come from one place.
use Rattle.std.proofs.Common.{◌≡◌, ℕ, ◌<◌, Bool, true, false, eqb, List, [], ◌∷◌, length, map, filter, get_or, Option, Some, None, refl, sym, ◌∙◌, arith, inl, inr}
use Rattle.std.specs.Prelude.{slice_index_or}
use Rattle.std.specs.List.{range_with_len}
use Rattle.std.proofs.lemmas.Bool.{and_cases, and_left, and_right, cases_Bool, eq-eqb, eqb-true, or_cases, or_left, or_right}
use Rattle.std.proofs.lemmas.List.{get_or-map, length-map}
use Rattle.plain_data.specs.Rows.{has_id}
use Rattle.node_state.specs.declared.reservation_record.Reservation.{Reservation}
use Rattle.node_state.specs.Moving.{reservation_moved, row_moved, was_in}
use Rattle.node_state.specs.Reservations.{AreReservations, crosses, overlaps, shares}

-- a place that both have
in-both : (one other : List ℕ) → shares one other ≡ true
    → (place : ℕ) × (has_id one place ≡ true) × (has_id other place ≡ true)
in-both [] other some = absurd (let never = some in cc)
in-both (place ∷ rest) other some = elim (or_cases (has_id other place) (shares rest other) some) [
  | inl here ↦ (place, or_left (eqb place place) (has_id rest place) (eq-eqb place place refl), here)
  | inr later ↦
      let (found, mine, theirs) = in-both rest other later in
      (found, or_right (eqb place found) (has_id rest found) mine, theirs)
]

shares-from : (one other : List ℕ) (place : ℕ) → has_id one place ≡ true → has_id other place ≡ true
    → shares one other ≡ true
shares-from [] other place mine theirs = absurd (let never = mine in cc)
shares-from (first ∷ rest) other place mine theirs = elim (or_cases (eqb first place) (has_id rest place) mine) [
  | inl here ↦ or_left (has_id other first) (shares rest other) (rw (eqb-true first place here) theirs)
  | inr later ↦ or_right (has_id other first) (shares rest other) (shares-from rest other place later theirs)
]

-- what a filter leaves passes
passes : (test : ℕ → Bool) (row : List ℕ) (place : ℕ) → has_id (filter test row) place ≡ true → test place ≡ true
passes test [] place has = absurd (let never = has in cc)
passes test (first ∷ rest) place has = elim (cases_Bool (test first)) [
  | inl stays ↦ elim (or_cases (eqb first place) (has_id (filter test rest) place) (rw stays at has)) [
    | inl here ↦ rw (← eqb-true first place here) stays
    | inr later ↦ passes test rest place later
  ]
  | inr goes ↦ passes test rest place (rw goes at has)
]

from-one : (one other : List ℕ) (origin : Option ℕ) → was_in one origin ≡ true → was_in other origin ≡ true
    → shares one other ≡ true
from-one one other None mine theirs = absurd (let never = mine in cc)
from-one one other (Some place) mine theirs = shares-from one other place mine theirs

shares-moved : (origins : List (Option ℕ)) (one other : List ℕ)
    → shares (row_moved origins one) (row_moved origins other) ≡ true → shares one other ≡ true
shares-moved origins one other some =
    let (place, mine, theirs) = in-both (row_moved origins one) (row_moved origins other) some in
    let range = range_with_len 0 (length origins) in
    from-one one other (slice_index_or origins place None)
    (passes (λ place. was_in one (slice_index_or origins place None)) range place mine)
    (passes (λ place. was_in other (slice_index_or origins place None)) range place theirs)

apart-moved : (origins : List (Option ℕ)) (one other : Reservation)
    → overlaps other.nodes other.start other.end one ≡ false
    → overlaps (row_moved origins other.nodes) other.start other.end (reservation_moved origins one) ≡ false
apart-moved origins one other off =
    elim (and_cases (crosses other.start other.end one) (shares one.nodes other.nodes) off) [
      | inl never ↦ and_left (crosses other.start other.end one)
          (shares (row_moved origins one.nodes) (row_moved origins other.nodes)) never
      | inr never ↦ and_right (crosses other.start other.end one)
          (shares (row_moved origins one.nodes) (row_moved origins other.nodes))
          (by (shares (row_moved origins one.nodes) (row_moved origins other.nodes))
          (shares-moved origins one.nodes other.nodes) never)
    ]
  where
    by : (b : Bool) → (b ≡ true → shares one.nodes other.nodes ≡ true) → shares one.nodes other.nodes ≡ false → b ≡ false
    by true some none = sym (some refl) ∙ none
    by false some none = refl

pub reservations-moved : (origins : List (Option ℕ)) (all : List Reservation) → AreReservations all
    → AreReservations (map (reservation_moved origins) all)
reservations-moved origins all are =
    let f : Reservation → Reservation = reservation_moved origins in
    record {
      each = λ k d below.
          let inside : k < length all = rw (length-map all f) at below in
          rw (get_or-map f all k d d inside) (are.each k d inside);
      named = λ i j d before below.
          let inside : j < length all = rw (length-map all f) at below in
          rw (get_or-map f all i d d (omega (arith, before, inside)), get_or-map f all j d d inside)
          (are.named i j d before inside);
      apart = λ i j d before below.
          let inside : j < length all = rw (length-map all f) at below in
          rw (get_or-map f all i d d (omega (arith, before, inside)), get_or-map f all j d d inside)
          (apart-moved origins (get_or all i d) (get_or all j d) (are.apart i j d before inside));
      few = rw (length-map all f) are.few;
    }
