-- What creation and deletion make: sound states, and other ones.
use Rattle.std.proofs.Common.{◌≡◌, ◌≢◌, ℕ, ◌<◌, ◌≤◌, Bool, true, false, cond, not, List, [], ◌∷◌, ◌++◌, length, Option, Some, None, refl, ap, arith}
use Rattle.std.specs.Prelude.{is_none, is_some, nat_le}
use Rattle.std.specs.List.{filter, find, list_any}
use Rattle.std.proofs.lemmas.Bool.{leb-false, or_parts}
use Rattle.std.proofs.lemmas.List.{length-append}
use Rattle.reply_data.specs.declared.refusal.Refusal.{Refusal}
use Rattle.reply_data.specs.declared.refusal.Refusal.TheVariants.{AccessDenied, InvalidReservation, ReservationOverlap, UnknownNode}
use Rattle.request_data.specs.declared.reservation.ReservationDesc.{ReservationDesc}
use Rattle.node_state.specs.Nodes.{place_named}
use Rattle.node_state.specs.declared.reservation_record.Reservation.{Reservation}
use Rattle.node_state.specs.ReservationLaws.{Fewer, OneMore}
use Rattle.node_state.specs.Reservations.{Fits, is_named, is_refused, overlaps, reservation_named}
use Rattle.ctl_state.specs.Laws.{Reserving}
use Rattle.ctl_state.specs.Refusals.{first_refusal, is_privileged, refused_if}
use Rattle.ctl_state.specs.Soundness.{IsSound}
use Rattle.ctl_state.specs.State.{State}
use Rattle.ctl_nodes.specs.Reserving.{are_held, create_refusals, created, deleted, is_taken, reservation_of}
use Rattle.list_lemmas.proofs.Filters.{filter-less as fewer-long}

-- what isn't refused and has nothing in its way fits
pub fits : (s : State) (now : ℕ) (desc : ReservationDesc)
    → is_refused now desc.name desc.start desc.end s.reservations ≡ false
    → is_taken s now (reservation_of s.nodes desc) ≡ false → Fits s.reservations (reservation_of s.nodes desc)
fits s now desc allowed free =
    let wanted = reservation_of s.nodes desc in
    let name = or_parts (is_some (reservation_named desc.name s.reservations)) _ allowed in
    let times = or_parts (nat_le desc.end desc.start) _ name.1 in
    let count = or_parts (nat_le desc.end now) (nat_le 256 (length s.reservations)) times.1 in
    record {
      later = leb-false desc.end desc.start times.0;
      named = name.0;
      apart = (or_parts (list_any (overlaps wanted.nodes wanted.start wanted.end) s.reservations)
          (are_held now wanted.nodes wanted.start wanted.end s.jobs) free).0;
      few = leb-false 256 (length s.reservations) count.1;
    }

-- the first of refusals that come to none: none of them stands
none-first : (refusal : Refusal) (stands : Bool) (later : List (Option Refusal))
    → first_refusal (refused_if stands refusal ∷ later) ≡ None → (stands ≡ false) × (first_refusal later ≡ None)
none-first refusal true later none = absurd (cc)
none-first refusal false later none = (refl, none)

pub sound_created : Reserving → OneMore → (s : State) (now : ℕ) (user : List ℕ) (desc : ReservationDesc) → IsSound s
    → first_refusal (create_refusals s now user desc) ≡ None → IsSound (created s desc)
sound_created keeps one_more s now user desc sound none =
    let wanted = reservation_of s.nodes desc in
    let may = none-first AccessDenied (not (is_privileged s user)) _ none in
    let allowed = none-first InvalidReservation (is_refused now desc.name desc.start desc.end s.reservations) _ may.1 in
    let known = none-first UnknownNode (list_any (λ name. is_none (place_named name s.nodes)) desc.nodes) _ allowed.1 in
    let free = none-first ReservationOverlap (is_taken s now wanted) [] known.1 in
    keeps s (s.reservations ++ wanted ∷ []) sound
    (one_more s.reservations wanted sound.reservations (fits s now desc allowed.0 free.0))

pub sound_deleted : Reserving → Fewer → (s : State) (name : List ℕ) → IsSound s → IsSound (deleted s name)
sound_deleted keeps fewer s name sound =
    keeps s (filter (λ (one : Reservation). not (is_named name one)) s.reservations) sound
    (fewer (λ (one : Reservation). not (is_named name one)) s.reservations sound.reservations)

pub changes_created : (s : State) (desc : ReservationDesc) → created s desc ≢ s
changes_created s desc same =
    omega (
      arith,
      ap (λ (state : State). length state.reservations) same,
      length-append s.reservations (reservation_of s.nodes desc ∷ []),
    )

-- a filter leaves no more, and fewer where one goes
one-goes : {X : Type 0} (p : X → Bool) (xs : List X) → is_none (find p xs) ≡ false
    → length (filter (λ x. not (p x)) xs) < length xs
one-goes p [] found = absurd cc
one-goes {X} p (x ∷ xs) found = at (p x) found (one-goes p xs) where
  rest : List X
  rest = filter (λ x. not (p x)) xs

  at : (b : Bool) → is_none (cond b (Some x) (find p xs)) ≡ false
      → (is_none (find p xs) ≡ false → length rest < length xs)
      → length (cond (not b) (x ∷ rest) rest) < length (x ∷ xs)
  at true found later = omega (arith, fewer-long (λ x. not (p x)) xs)
  at false found later = omega (arith, later found)

pub changes_deleted : (s : State) (name : List ℕ) → is_none (reservation_named name s.reservations) ≡ false
    → deleted s name ≢ s
changes_deleted s name found same =
    omega (
      arith,
      ap (λ (state : State). length state.reservations) same,
      one-goes (is_named name) s.reservations found,
    )
