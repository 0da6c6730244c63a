-- What reservations leave to a job, found by a walk over them.
use Rattle.std.proofs.Common.{◌≡◌, ℕ, ◌+◌, ◌<◌, Bool, ◌&&◌, cond, ltb, List, [], ◌∷◌, ◌++◌, length, filter, flat_map, take, get_or, Option, refl, sym, inl, inr}
use Rattle.std.specs.Prelude.{find}
use Rattle.std.proofs.lemmas.Bool.{cases_Bool}
use Rattle.std.proofs.lemmas.List.{append-nil, take_more}
use Rattle.std.proofs.lemmas.List.Concat.{flat_map-append}
use Rattle.std.proofs.lemmas.List.Elements.{filter-append}
use Rattle.node_state.specs.declared.reservation_record.Reservation.{Reservation}
use Rattle.node_state.specs.Reservations.{is_named, lasting, reservation_named}
use Rattle.ctl_state.specs.Planning.{barred_by, barred_of}

-- the first of those that last, by its name
pub find_lasting : (now : ℕ) (name : List ℕ) (some : List Reservation)
    → find (λ (one : Reservation). ltb now one.end && is_named name one) some ≡ reservation_named name (lasting now some)
find_lasting now name [] = refl
find_lasting now name (one ∷ later) = elim (cases_Bool (ltb now one.end)) [
  | inl lasts ↦ elim (cases_Bool (is_named name one)) [
    | inl found ↦ rw (lasts, found) refl
    | inr other ↦ rw (lasts, other) (find_lasting now name later)
  ]
  | inr over ↦ rw over (find_lasting now name later)
]

-- one more of those that last
pub barred-more : (name : Option (List ℕ)) (now i : ℕ) (some : List Reservation) (one : Reservation)
    → i < length some → one ≡ get_or some i one
    → barred_of (lasting now (take (i + 1) some)) name
    ≡ barred_of (lasting now (take i some)) name ++ cond (ltb now one.end) (barred_by name one) []
unfolding barred_of
barred-more name now i some one within is =
    let keep : Reservation → Bool = λ r. ltb now r.end in
    let joined = flat_map-append (barred_by name) (filter keep (take i some)) (filter keep (one ∷ [])) in
    rw (take_more some i one within, ← is, filter-append keep (take i some) (one ∷ []), joined)
    (elim (cases_Bool (ltb now one.end)) [
      | inl lasts ↦ rw (lasts, append-nil (barred_by name one)) refl
      | inr over ↦ rw over refl
    ])
