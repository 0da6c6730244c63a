-- Reservations beside one another: fewer of them, and one more.
use Rattle.std.proofs.Common.{◌≡◌, ◌≢◌, ℕ, ◌<◌, ◌≤◌, Bool, true, false, cond, List, [], ◌∷◌, length, get_or, All, Some, refl, sym, arith, inl, inr}
use Rattle.std.specs.Prelude.{is_some, nat_lt}
use Rattle.std.specs.List.{filter, find, list_any}
use Rattle.std.proofs.lemmas.Bool.{both_ways, cases_Bool, or_parts}
use Rattle.std.proofs.lemmas.List.{length-append}
use Rattle.std.proofs.lemmas.List.Elements.{All-nil, All-cons, All-filter, All-push}
use Rattle.std.proofs.lemmas.List.Kept.{AllPairs-filter}
use Rattle.std.proofs.lemmas.List.Quantifiers.{all_pairs_push}
use Rattle.std.proofs.lemmas.Slice.Eq.{bytes_eq-Decides}
use Rattle.node_state.specs.declared.reservation_record.Reservation.{Reservation}
use Rattle.node_state.specs.ReservationLaws.{Fewer, OneMore, LastingTwice}
use Rattle.node_state.specs.Reservations.{is_named, overlaps}
use Rattle.list_lemmas.proofs.Filters.{filter-less as fewer-long}
use Rattle.list_lemmas.proofs.Elements.{any-none}

-- a test that no element passes, or that finds none, fails at each
find-none : {X : Type 0} (p : X → Bool) (xs : List X) → is_some (find p xs) ≡ false → All (λ x. p x ≡ false) xs
find-none p [] none = All-nil (λ x. p x ≡ false)
find-none p (x ∷ xs) none =
    All-cons (λ x. p x ≡ false) x xs (fails (p x) none) (find-none p xs (later (p x) none)) where
      fails : (b : Bool) → is_some (cond b (Some x) (find p xs)) ≡ false → b ≡ false
      fails true none = absurd cc
      fails false none = refl

      later : (b : Bool) → is_some (cond b (Some x) (find p xs)) ≡ false → is_some (find p xs) ≡ false
      later true none = absurd cc
      later false none = none

-- a filter leaves no more, and nothing more to filter
filter-twice : {X : Type 0} (p : X → Bool) (xs : List X) → filter p (filter p xs) ≡ filter p xs
filter-twice p [] = refl
filter-twice p (x ∷ xs) = elim (cases_Bool (p x)) as (λ _. filter p (filter p (x ∷ xs)) ≡ filter p (x ∷ xs)) [
  | inl passes ↦ rw (passes, passes, filter-twice p xs) refl
  | inr fails ↦ rw (fails, filter-twice p xs) refl
]

pub fewer : Fewer
fewer stays reservations are = record {
  each = All-filter stays (λ (one : Reservation). one.start < one.end) reservations are.each;
  named = AllPairs-filter (λ (one other : Reservation). one.name ≢ other.name) stays reservations are.named;
  apart = AllPairs-filter (λ (one other : Reservation). overlaps other.nodes other.start other.end one ≡ false)
      stays reservations are.apart;
  few = omega (arith, are.few, fewer-long stays reservations);
}

pub one_more : OneMore
one_more reservations wanted are fits = record {
  each = All-push (λ (one : Reservation). one.start < one.end) reservations wanted are.each fits.later;
  named = all_pairs_push (λ (one other : Reservation). one.name ≢ other.name) reservations wanted are.named other_names;
  apart = all_pairs_push (λ (one other : Reservation). overlaps other.nodes other.start other.end one ≡ false)
      reservations wanted are.apart (any-none (overlaps wanted.nodes wanted.start wanted.end) reservations fits.apart);
  few = rw (length-append reservations (wanted ∷ [])) (omega (arith, fits.few));
} where
  other_names : (k : ℕ) (d : Reservation) → k < length reservations → (get_or reservations k d).name ≢ wanted.name
  other_names k d inside same =
      both_ways (is_named wanted.name (get_or reservations k d))
      (find-none (is_named wanted.name) reservations fits.named k d inside)
      ((bytes_eq-Decides wanted.name (get_or reservations k d).name).1 (sym same))

pub lasting_twice : LastingTwice
lasting_twice now reservations = filter-twice (λ (one : Reservation). nat_lt now one.end) reservations
