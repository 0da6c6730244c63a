use Rattle.std.proofs.Common.{◌≡◌, ◌==◌, ℕ, ◌+◌, ◌<◌, true, false, Some, get_or, take, arith, sym, ap, ◌∙◌, take_all}
use Rattle.std.proofs.lemmas.Bool.Decides.{nat_tests}
use Rattle.std.specs.Char.{is_ascii_digit}
use Rattle.std.specs.Str.{all_ascii_digits}
use Rattle.std.specs.Str.Parse.{digits_value}
use Rattle.small_texts.proofs.DigitsLemmas.{digits_longer, value_longer, no_number_empty, no_number_long, no_number_byte, no_number_above, number_of_digits}
use Rattle.small_texts.proofs.digits.parse_number.Goals as goal
use Rattle.small_texts.proofs.digits.parse_number.Goals.{then-is_empty-via-then-is_empty, then-is_empty-via-else-is_empty+then-text-most_digits}

nonempty : (n : ℕ) → false ≡ (n == 0) → 0 < n
nonempty n e = grind (arith, nat_tests)

pub returns-then-is_empty-clause-value : goal.returns-then-is_empty-clause-value
returns-then-is_empty-clause-value c =
    elim c.then-is_empty.branch [
      | then-is_empty-via-then-is_empty w ↦ no_number_empty _ _ _ (grind (arith, nat_tests, w.if-is_empty.ensures))
      | then-is_empty-via-else-is_empty+then-text-most_digits w ↦ no_number_long _ _ _ (omega arith)
    ]

pub returns-then-not-is_ascii_digit-clause-value : goal.returns-then-not-is_ascii_digit-clause-value
returns-then-not-is_ascii_digit-clause-value c =
    no_number_byte _ _ _ c.loop-digit.digit-index c.loop-digit-test.true (sym c.if-not-is_ascii_digit.ensures.value)

pub returns-in_err-checked_mul-clause-value : goal.returns-in_err-checked_mul-clause-value
returns-in_err-checked_mul-clause-value c =
    let text = c.args.text.now in
    let i = c.loop-digit.digit-index in
    let digit : is_ascii_digit (get_or text i 0) ≡ true = sym c.if-not-is_ascii_digit.ensures.value in
    let next = value_longer text i c.loop-digit-test.true digit in
    let over = c.in_err-checked_mul.ensures in
    c.from_residual.ensures ∙ no_number_above _ _ text (i + 1) (omega arith)

pub returns-in_err-number-clause-value : goal.returns-in_err-number-clause-value
returns-in_err-number-clause-value c =
    let text = c.args.text.now in
    let i = c.loop-digit.digit-index in
    let digit : is_ascii_digit (get_or text i 0) ≡ true = sym c.if-not-is_ascii_digit.ensures.value in
    let next = value_longer text i c.loop-digit-test.true digit in
    let times = c.in_ok-checked_mul.ensures in
    let over = c.in_err-number.ensures in
    c.from_residual-in_err-number.ensures ∙ no_number_above _ _ text (i + 1) (omega arith)

pub returns-then-number-greatest-clause-value : goal.returns-then-number-greatest-clause-value
returns-then-number-greatest-clause-value c =
    let text = c.args.text.now in
    let i = c.loop-digit.digit-index in
    let digit : is_ascii_digit (get_or text i 0) ≡ true = sym c.if-not-is_ascii_digit.ensures.value in
    let next = value_longer text i c.loop-digit-test.true digit in
    no_number_above _ _ text (i + 1) (omega arith)

pub loop-digit-preserved : goal.loop-digit-preserved
loop-digit-preserved c =
    let text = c.args.text.now in
    let i = c.loop-digit.digit-index in
    let digit : is_ascii_digit (get_or text i 0) ≡ true = sym c.if-not-is_ascii_digit.ensures.value in
    let next = value_longer text i c.loop-digit-test.true digit in
    (digits_longer text i c.loop-digit-test.true c.loop-digit.invariant.0 digit, omega arith, omega arith)

pub returns-clause-value : goal.returns-clause-value
returns-clause-value c =
    let text = c.args.text.now in
    let whole : take c.loop-digit.digit-index text ≡ text = take_all _ _ c.loop-digit-test.false in
    let digits : all_ascii_digits text ≡ true = rw whole at c.loop-digit.invariant.0 in
    let value : c.loop-digit.number ≡ digits_value 10 text = rw whole at c.loop-digit.invariant.1 in
    ap Some value ∙ number_of_digits _ _ text (nonempty _ c.if-is_empty.ensures) (omega arith) digits (omega arith)
