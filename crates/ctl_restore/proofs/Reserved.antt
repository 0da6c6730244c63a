-- Reservations, one after the other.
use Rattle.std.proofs.Common.{◌≡◌, ℕ, zero, suc, ◌+◌, ◌<◌, ◌≤◌, Bool, false, List, [], ◌∷◌, ◌++◌, length, map, take, get_or, Option, Some, None, refl, sym, ap, ◌∙◌, arith}
use Rattle.std.specs.Prelude.{is_some}
use Rattle.std.specs.List.{list_any}
use Rattle.std.proofs.lemmas.List.{length-take-le, get_or-map, get_or-take, length-map, map-append, take_more}
use Rattle.std.proofs.lemmas.Slice.Eq.{bytes_eq-Decides}
use Rattle.std.proofs.lemmas.Option.{slice_get_past}
use Rattle.node_state.specs.declared.record.NodeRecord.{NodeRecord}
use Rattle.ctl_state.specs.Planning.{is_at}
use Rattle.node_state.specs.declared.reservation_record.Reservation.{Reservation}
use Rattle.node_state.specs.Reservations.{AreReservations, Fits, is_named, overlaps, reservation_named}
use Rattle.ctl_restore.proofs.Usages.{found-passes}

any-false : {X : Type 0} (p : X → Bool) (xs : List X) (d : X) → ((k : ℕ) → k < length xs → p (get_or xs k d) ≡ false)
    → list_any p xs ≡ false
any-false p [] d none = refl
any-false p (x ∷ xs) d none =
    rw (none 0 (omega arith)) (any-false p xs d (λ k below. none (suc k) (omega (arith, below))))

-- of reservations that can stand beside each other, each can stand beside those before it
pub fits-at : (all : List Reservation) (place : ℕ) (d : Reservation) → AreReservations all → place < length all
    → Fits (take place all) (get_or all place d)
fits-at all place d are inside = record {
  later = are.each place d inside;
  named = unnamed (reservation_named (get_or all place d).name (take place all)) refl;
  apart = any-false (overlaps (get_or all place d).nodes (get_or all place d).start (get_or all place d).end)
      (take place all) d
      (λ k below. let before : k < place = omega (arith, below, many) in
      rw (get_or-take place all k d before) (are.apart k place d before inside));
  few = omega (arith, many, inside, are.few);
}
  where
    many : length (take place all) ≡ place
    many = length-take-le place all (omega (arith, inside))

    unnamed : (found : Option Reservation) → reservation_named (get_or all place d).name (take place all) ≡ found
        → is_some found ≡ false
    unnamed None is = refl
    unnamed (Some one) is =
        let (k, below, here, same) = found-passes (is_named (get_or all place d).name) (take place all) one is in
        let before : k < place = omega (arith, below, many) in
        let name : (get_or all place d).name ≡ one.name = (bytes_eq-Decides _ _).0 same in
        absurd (are.named k place d before inside
        (ap (λ (one : Reservation). one.name) (sym (get_or-take place all k d before) ∙ here d) ∙ sym name))

map-take : {X Y : Type 0} (f : X → Y) (n : ℕ) (xs : List X) → map f (take n xs) ≡ take n (map f xs)
map-take f zero xs = refl
map-take f (suc n) [] = refl
map-take f (suc n) (x ∷ xs) = ap (λ rest. f x ∷ rest) (map-take f n xs)

-- one line's reservation can stand beside those of the lines before it
pub fits-line : {X : Type 0} (f : X → Reservation) (lines : List X) (i : ℕ) (line : X) (before : List Reservation)
    (wanted : Reservation) → i < length lines → line ≡ get_or lines i line → before ≡ map f (take i lines)
    → wanted ≡ f line → AreReservations (map f lines) → Fits before wanted
fits-line f lines i line before wanted inside is were same are =
    let here : get_or (map f lines) i (f line) ≡ wanted =
    get_or-map f lines i line (f line) inside ∙ ap f (sym is) ∙ sym same in
    let front : take i (map f lines) ≡ before = sym (map-take f i lines) ∙ sym were in
    rw (front, here) at (fits-at (map f lines) i (f line) are (omega (arith, inside, length-map lines f)))

-- one reservation more
pub line-more : {X : Type 0} (f : X → Reservation) (lines : List X) (i : ℕ) (line : X) (before : List Reservation)
    (wanted : Reservation) → i < length lines → line ≡ get_or lines i line → before ≡ map f (take i lines)
    → wanted ≡ f line → before ++ wanted ∷ [] ≡ map f (take (i + 1) lines)
line-more f lines i line before wanted inside is were same =
    ap (λ before. before ++ wanted ∷ []) were ∙ ap (λ wanted. map f (take i lines) ++ wanted ∷ []) same
    ∙ sym (map-append f (take i lines) (line ∷ []))
    ∙ ap (map f) (ap (λ line. take i lines ++ line ∷ []) is ∙ sym (take_more lines i line inside))
