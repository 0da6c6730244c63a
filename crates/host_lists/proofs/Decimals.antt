-- Digits are what their number is written in, with zeros in front.
use Rattle.std.proofs.Common.{ℕ, suc, ◌≡◌, ◌-◌, ◌^◌, ◌<◌, ◌≤◌, ◌==◌, nat_le, Bool, true, false, List, [], ◌∷◌, length, get_or, replicate, decimal, sym, refl, ap, subst, arith, eqb-true}
use Rattle.std.specs.Char.{is_ascii_digit}
use Rattle.std.specs.Int.{IsInRange, is_in_range}
use Rattle.std.specs.List.{list_all}
use Rattle.std.proofs.lemmas.Bool.Decides.{nat_tests}
use Rattle.std.proofs.lemmas.Fmt.{decimal-digits_value}
use Rattle.std.proofs.lemmas.List.{length-append}
use Rattle.std.proofs.lemmas.Str.Parse.{IsNumeralModel, IsDigitsTest, numerals_by_value, digits_value_short}
use Rattle.std.specs.Str.Parse.{digits_value}
use Rattle.host_lists.specs.Hosts.{padded}
use Rattle.host_lists.proofs.Both.{both-left, both-right}

in_range : (low high c : ℕ) → is_in_range low high c ≡ true → IsInRange low high c
in_range low high c h = (least (nat_le low c) refl, most (nat_le low c) refl) where
  least : (t : Bool) → nat_le low c ≡ t → low ≤ c
  least t e = grind (arith, nat_tests, h)

  most : (t : Bool) → nat_le low c ≡ t → c ≤ high
  most t e = grind (arith, nat_tests, h)

from_range : (low high c : ℕ) → IsInRange low high c → is_in_range low high c ≡ true
from_range low high c h = grind (arith, nat_tests, h.0, h.1)

tells : IsDigitsTest (λ ds. list_all is_ascii_digit ds ≡ true)
tells = record {
  empty = refl;
  parts = λ c cs p. (in_range 48 57 c (both-left (is_ascii_digit c) (list_all is_ascii_digit cs) p), both-right (is_ascii_digit c) (list_all is_ascii_digit cs) p);
  more = λ c cs k d. rw (from_range 48 57 c k, d) refl;
}

pub own : IsNumeralModel (λ ds. list_all is_ascii_digit ds ≡ true) (digits_value 10)
own = numerals_by_value (λ ds. list_all is_ascii_digit ds ≡ true) tells

pub small : (ds : List ℕ) → list_all is_ascii_digit ds ≡ true → length ds ≤ 9 → digits_value 10 ds < 10 ^ 9
small ds h k = digits_value_short own ds 9 h k

-- a zero in front
zero_first : (c : ℕ) (ds : List ℕ) → c ≡ 48 → 1 ≤ length ds → padded (length ds) (digits_value 10 ds) ≡ ds → padded (length (c ∷ ds)) (digits_value 10 (c ∷ ds)) ≡ c ∷ ds
zero_first c ds e h more =
    let P : ℕ → Type 0 = λ x. padded (length (x ∷ ds)) (digits_value 10 (x ∷ ds)) ≡ x ∷ ds in
    subst P (sym e) here
  where
    few : length (decimal (digits_value 10 ds)) ≤ length ds
    few = omega (arith, ap length more, length-append (replicate (length ds - length (decimal (digits_value 10 ds))) 48) (decimal (digits_value 10 ds)))

    zeros : suc (length ds) - length (decimal (digits_value 10 ds)) ≡ suc (length ds - length (decimal (digits_value 10 ds)))
    zeros = omega (arith, few)

    here : padded (suc (length ds)) (digits_value 10 ds) ≡ 48 ∷ ds
    here = rw zeros (ap (λ (u : List ℕ). 48 ∷ u) more)

-- no zero in front
plain_first : (ds : List ℕ) → list_all is_ascii_digit ds ≡ true → 0 < length ds → length ds ≤ 9 → (get_or ds 0 0 ≡ 48 → length ds ≡ 1) → padded (length ds) (digits_value 10 ds) ≡ ds
plain_first ds h k n z =
    let same : decimal (digits_value 10 ds) ≡ ds = decimal-digits_value own ds h k z (omega (arith, small ds h n)) in
    let none : length ds - length ds ≡ 0 = omega arith in
    rw (same, none) refl

padded-step : (c : ℕ) (ds : List ℕ) → list_all is_ascii_digit (c ∷ ds) ≡ true → 1 ≤ length ds → length (c ∷ ds) ≤ 9 → padded (length ds) (digits_value 10 ds) ≡ ds → (t : Bool) → (c == 48) ≡ t → padded (length (c ∷ ds)) (digits_value 10 (c ∷ ds)) ≡ c ∷ ds
padded-step c ds h k n more true e = zero_first c ds (eqb-true c 48 e) k more
padded-step c ds h k n more false e = plain_first (c ∷ ds) h (omega arith) n (λ g. absurd (apart c g e)) where
  apart : (c : ℕ) → c ≡ 48 → (c == 48) ≡ false → ⊥
  apart c g e = grind (arith, nat_tests)

pub padded_digits : (ds : List ℕ) → list_all is_ascii_digit ds ≡ true → 1 ≤ length ds → length ds ≤ 9 → padded (length ds) (digits_value 10 ds) ≡ ds
padded_digits [] h k n = absurd (omega arith)
padded_digits (c ∷ []) h k n = plain_first (c ∷ []) h (omega arith) n (λ e. refl)
padded_digits (c ∷ d ∷ ds) h k n =
    padded-step c (d ∷ ds) h (omega arith) n (padded_digits (d ∷ ds) (both-right (is_ascii_digit c) (list_all is_ascii_digit (d ∷ ds)) h) (omega arith) (omega arith)) (c == 48) refl
