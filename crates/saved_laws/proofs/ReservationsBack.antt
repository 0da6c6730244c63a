-- Reservations come back.
use Rattle.std.proofs.Common.{ℕ, ◌≡◌, ◌∙◌, ◌+◌, ◌<◌, ◌≤◌, zero, suc, Bool, true, false, ◌||◌, cond, List, [], ◌∷◌, map, filter, length, All, nat_eq, slice_get, refl, ap, sym, arith, inl, inr}
use Rattle.std.specs.Prelude.{option_map, unwrap_or}
use Rattle.std.specs.List.{list_any, range_with_len}
use Rattle.std.proofs.lemmas.Bool.{cases_Bool, eqb-true, false_from_ne_true, eq-eqb}
use Rattle.std.proofs.lemmas.Bool.Decides.{nat_tests}
use Rattle.std.proofs.lemmas.List.{length-map}
use Rattle.std.proofs.lemmas.List.Elements.{All-head, All-tail, filter_agree}
use Rattle.plain_data.specs.declared.conf.NodeConf.{NodeConf}
use Rattle.node_state.specs.declared.record.NodeRecord.{NodeRecord}
use Rattle.node_state.specs.declared.reservation_record.Reservation.{Reservation}
use Rattle.node_state.specs.Reservations.{has}
use Rattle.ctl_state.specs.Planning.{is_at}
use Rattle.ctl_nodes.specs.Reserving.{places_among}
use Rattle.ctl_nodes.specs.Updating.{is_among}
use Rattle.ctl_saved.specs.Saving.{saved_reservation}
use Rattle.ctl_restore.specs.Restored.{restored_reservation}
use Rattle.saved_laws.specs.Kept.{IsReserved, confs_of}

-- ---- rows of numbers

-- two tests that agree on a row keep the same of it
pub agreeing : (one other : ℕ → Bool) (low count : ℕ)
    → ((k : ℕ) → low ≤ k → k < low + count → one k ≡ other k)
    → filter one (range_with_len low count) ≡ filter other (range_with_len low count)
agreeing one other low zero agree = refl
agreeing one other low (suc count) agree =
    ap (λ (is : Bool). cond is (low ∷ filter one (range_with_len (low + 1) count)) (filter one (range_with_len (low + 1) count)))
    (agree low (omega arith) (omega arith))
    ∙ ap (λ later. cond (other low) (low ∷ later) later)
    (agreeing one other (low + 1) count (λ k above below. agree k (omega (arith, above)) (omega (arith, below))))

-- the row with one more, if it is kept, has the others that it had
before-by : (k low : ℕ) (kept : List ℕ) (has : Bool) → nat_eq k low ≡ false → list_any (nat_eq k) kept ≡ has → (keeps : Bool)
    → list_any (nat_eq k) (cond keeps (low ∷ kept) kept) ≡ has
before-by k low kept has differs later true =
    ap (λ (is : Bool). is || list_any (nat_eq k) kept) differs ∙ later
before-by k low kept has differs later false = later

-- what a row keeps has no number before it
none-before : (test : ℕ → Bool) (k low count : ℕ) → k < low
    → list_any (nat_eq k) (filter test (range_with_len low count)) ≡ false
none-before test k low zero before = refl
none-before test k low (suc count) before =
    before-by k low (filter test (range_with_len (low + 1) count)) false
    (false_from_ne_true (nat_eq k low) (λ is. let same = eqb-true k low is in absurd (omega (arith, same, before))))
    (none-before test k (low + 1) count (omega (arith, before))) (test low)

first-kept : (test : ℕ → Bool) (k low : ℕ) (kept : List ℕ) → k ≡ low → list_any (nat_eq k) kept ≡ false → (keeps : Bool)
    → test low ≡ keeps → list_any (nat_eq k) (cond keeps (low ∷ kept) kept) ≡ test k
first-kept test k low kept same none true is =
    ap (λ (has : Bool). has || list_any (nat_eq k) kept) (eq-eqb k low same) ∙ sym is ∙ ap test (sym same)
first-kept test k low kept same none false is = none ∙ sym is ∙ ap test (sym same)

-- it has those that pass
pub kept-there : (test : ℕ → Bool) (k low count : ℕ) → low ≤ k → k < low + count
    → list_any (nat_eq k) (filter test (range_with_len low count)) ≡ test k
kept-there test k low zero above below = absurd (omega (arith, above, below))
kept-there test k low (suc count) above below = elim (cases_Bool (nat_eq k low)) [
  | inl is ↦
      let same = eqb-true k low is in
      first-kept test k low (filter test (range_with_len (low + 1) count)) same
      (none-before test k (low + 1) count (omega (arith, same))) (test low) refl
  | inr not ↦
      before-by k low (filter test (range_with_len (low + 1) count)) (test k) not
      (kept-there test k (low + 1) count (later k low above not) (omega (arith, below))) (test low)
]
  where
    later : (k low : ℕ) → low ≤ k → nat_eq k low ≡ false → low + 1 ≤ k
    later k low above not = grind (arith, nat_tests)

-- ---- the places of nodes by their names, whatever becomes of the nodes

is-at-conf : (names : List (List ℕ)) (nodes : List NodeRecord) (place : ℕ)
    → unwrap_or (option_map (λ (conf : NodeConf). has names conf.name) (slice_get (confs_of nodes) place)) false
    ≡ is_at (is_among names) nodes place
is-at-conf names [] place = refl
is-at-conf names (node ∷ nodes) zero = refl
is-at-conf names (node ∷ nodes) (suc place) = is-at-conf names nodes place

abbrev among : List NodeConf → List (List ℕ) → List ℕ
among confs names =
    filter (λ place. unwrap_or (option_map (λ (conf : NodeConf). has names conf.name) (slice_get confs place)) false)
    (range_with_len 0 (length confs))

places-by-confs : (names : List (List ℕ)) (nodes : List NodeRecord)
    → places_among nodes names ≡ among (confs_of nodes) names
places-by-confs names nodes =
    filter_agree (is_at (is_among names) nodes)
    (λ place. unwrap_or (option_map (λ (conf : NodeConf). has names conf.name) (slice_get (confs_of nodes) place)) false)
    (λ place. sym (is-at-conf names nodes place)) (range_with_len 0 (length nodes))
    ∙ ap (λ count. filter
    (λ place. unwrap_or (option_map (λ (conf : NodeConf). has names conf.name) (slice_get (confs_of nodes) place)) false)
    (range_with_len 0 count)) (sym (length-map nodes (λ (node : NodeRecord). node.conf)))

pub same_places_among : (names : List (List ℕ)) (one other : List NodeRecord) → confs_of one ≡ confs_of other
    → places_among one names ≡ places_among other names
same_places_among names one other same =
    places-by-confs names one ∙ ap (λ confs. among confs names) same ∙ sym (places-by-confs names other)

-- ---- what comes back

reservation-back : (opened : List NodeRecord) (reservation : Reservation) → IsReserved opened reservation
    → restored_reservation opened (saved_reservation reservation) ≡ reservation
unfolding restored_reservation saved_reservation
reservation-back opened reservation of = ap (λ places. record reservation { nodes = places }) (sym of.places)

pub reservations_back : (opened : List NodeRecord) (reservations : List Reservation)
    → All (IsReserved opened) reservations
    → map (restored_reservation opened) (map saved_reservation reservations) ≡ reservations
reservations_back opened [] of = refl
reservations_back opened (one ∷ others) of =
    ap (λ back. back ∷ map (restored_reservation opened) (map saved_reservation others))
    (reservation-back opened one (All-head (IsReserved opened) one others of))
    ∙ ap (λ later. one ∷ later) (reservations_back opened others (All-tail (IsReserved opened) one others of))
