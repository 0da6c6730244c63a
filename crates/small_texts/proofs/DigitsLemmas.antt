-- When a text is a number, and when it is none.
use Rattle.std.proofs.Common.{◌≡◌, ℕ, zero, suc, ◌+◌, ◌-◌, ◌*◌, ◌<◌, ◌≤◌, Bool, true, false, List, [], ◌∷◌, length, get_or, take, Some, None, refl, arith, sym, ◌∙◌, ap, lit≤}
use Rattle.std.proofs.lemmas.Bool.{cond-true, cond-false, and_from, and_left, and_right, and_parts, le-ltb, lt-ltb, le-leb, lt-leb, true≢false}
use Rattle.std.proofs.lemmas.Bool.Decides.{nat_tests}
use Rattle.std.proofs.lemmas.Int.Digits.{digits_more, digits_value_more}
use Rattle.std.proofs.lemmas.Str.Parse.{IsNumeralModel, numerals_by_value, tells_all_ascii_digits, digits_value-take-le}
use Rattle.std.specs.Char.{is_ascii_digit, digit_value}
use Rattle.std.specs.Str.{all_ascii_digits}
use Rattle.std.specs.Str.Parse.{digits_value}
use Rattle.small_texts.specs.Digits.{number_within}

pub digits_model : IsNumeralModel (λ ds. all_ascii_digits ds ≡ true) (digits_value 10)
digits_model = numerals_by_value _ tells_all_ascii_digits

pub digit_value-digit : (c : ℕ) → is_ascii_digit c ≡ true → digit_value c ≡ c - 48
digit_value-digit c h = grind (arith, nat_tests)

pub below_ten : (c : ℕ) → is_ascii_digit c ≡ true → digit_value c < 10
below_ten c h = grind (arith, nat_tests)

-- each byte of such a text is a digit
pub digit_within : (text : List ℕ) (i : ℕ) → all_ascii_digits text ≡ true → i < length text → is_ascii_digit (get_or text i 0) ≡ true
digit_within [] i all inside = absurd (omega arith)
digit_within (c ∷ cs) zero all inside = (and_parts _ _ all).0
digit_within (c ∷ cs) (suc i) all inside = digit_within cs i (and_parts _ _ all).1 (omega arith)

-- one digit more
pub digits_longer : (text : List ℕ) (i : ℕ) → i < length text → all_ascii_digits (take i text) ≡ true → is_ascii_digit (get_or text i 0) ≡ true → all_ascii_digits (take (i + 1) text) ≡ true
digits_longer text i inside so_far digit =
    digits_model.from _ (digits_more 10 text i inside (digits_model.to _ so_far) (below_ten (get_or text i 0) digit))

pub value_longer : (text : List ℕ) (i : ℕ) → i < length text → is_ascii_digit (get_or text i 0) ≡ true → digits_value 10 (take (i + 1) text) ≡ digits_value 10 (take i text) * 10 + (get_or text i 0 - 48)
value_longer text i inside digit =
    digits_value_more 10 text i inside ∙ ap (λ d. digits_value 10 (take i text) * 10 + d) (digit_value-digit (get_or text i 0) digit)

-- what is no number
pub no_number_empty : (most greatest : ℕ) (text : List ℕ) → length text ≡ 0 → None ≡ number_within most greatest text
unfolding number_within
no_number_empty most greatest text none = sym (cond-false _ _ _ (and_left _ _ (and_left _ _ (and_left _ _ (le-ltb 0 (length text) (omega arith))))))

pub no_number_long : (most greatest : ℕ) (text : List ℕ) → most < length text → None ≡ number_within most greatest text
unfolding number_within
no_number_long most greatest text long = sym (cond-false _ _ _ (and_left _ _ (and_left _ _ (and_right _ _ (lt-leb (length text) most long)))))

pub no_number_byte : (most greatest : ℕ) (text : List ℕ) (i : ℕ) → i < length text → is_ascii_digit (get_or text i 0) ≡ false → None ≡ number_within most greatest text
unfolding number_within
no_number_byte most greatest text i inside other =
    sym (cond-false _ _ _ (and_left _ _ (and_right _ _ (otherwise _ refl))))
  where
    otherwise : (b : Bool) → all_ascii_digits text ≡ b → all_ascii_digits text ≡ false
    otherwise true e = absurd (true≢false (sym (digit_within text i e inside) ∙ other))
    otherwise false e = e

pub no_number_above : (most greatest : ℕ) (text : List ℕ) (i : ℕ) → greatest < digits_value 10 (take i text) → None ≡ number_within most greatest text
unfolding number_within
no_number_above most greatest text i above =
    sym (cond-false _ _ _ (and_right _ _ (lt-leb (digits_value 10 text) greatest (omega (arith, digits_value-take-le 10 text i (lit≤ tt))))))

-- what is one
pub number_of_digits : (most greatest : ℕ) (text : List ℕ) → 0 < length text → length text ≤ most → all_ascii_digits text ≡ true → digits_value 10 text ≤ greatest → Some (digits_value 10 text) ≡ number_within most greatest text
unfolding number_within
number_of_digits most greatest text some short digits small =
    sym (cond-true _ _ _ (and_from _ _ (and_from _ _ (and_from _ _ (lt-ltb _ _ some) (le-leb _ _ short)) digits) (le-leb _ _ small)))
