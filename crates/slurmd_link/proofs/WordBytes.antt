-- What is written of numbers, names and starts is good in a word.
use Rattle.std.proofs.Common.{◌≡◌, ℕ, ◌^◌, ◌<◌, Bool, true, false, ◌&&◌, List, [], ◌∷◌, ◌++◌, decimal, codes, refl, ◌∙◌, arith}
use Rattle.std.specs.Char.{is_ascii_digit}
use Rattle.std.specs.List.{list_all}
use Rattle.std.specs.Str.{all_ascii_digits}
use Rattle.std.specs.Str.Parse.{digits_value}
use Rattle.std.proofs.lemmas.Bool.Decides.{nat_tests}
use Rattle.std.proofs.lemmas.Fmt.{digits_decimal}
use Rattle.std.proofs.lemmas.List.Folds.{list_all-append}
use Rattle.std.proofs.lemmas.Str.Parse.{IsNumeralModel, numerals_by_value, tells_all_ascii_digits}
use Rattle.small_texts.specs.Name.{is_name, is_name_byte}
use Rattle.line_words.specs.Words.{is_word_byte}
use Rattle.request_data.specs.declared.report.Done.{Done}
use Rattle.request_data.specs.declared.report.Start.{Start}
use Rattle.slurm_print.specs.Orders.{start_text}
use Rattle.slurmd_link.specs.Reports.{done_text}

own : IsNumeralModel (λ ds. all_ascii_digits ds ≡ true) (digits_value 10)
own = numerals_by_value (λ ds. all_ascii_digits ds ≡ true) tells_all_ascii_digits

both : (a b : Bool) → a ≡ true → b ≡ true → (a && b) ≡ true
both a b p q = rw (p, q) refl

left_of : (a b : Bool) → (a && b) ≡ true → a ≡ true
left_of true b e = refl
left_of false b e = absurd (cc)

right_of : (a b : Bool) → (a && b) ≡ true → b ≡ true
right_of true b e = e
right_of false b e = absurd (cc)

pub joined : (front back : List ℕ) → list_all is_word_byte front ≡ true → list_all is_word_byte back ≡ true
    → list_all is_word_byte (front ++ back) ≡ true
joined front back one other = list_all-append is_word_byte front back ∙ both _ _ one other

digit_good : (d : ℕ) → is_ascii_digit d ≡ true → is_word_byte d ≡ true
digit_good d is = grind (arith, nat_tests)

digits_good : (digits : List ℕ) → all_ascii_digits digits ≡ true → list_all is_word_byte digits ≡ true
digits_good [] is = refl
digits_good (d ∷ digits) is =
    both _ _ (digit_good d (left_of (is_ascii_digit d) _ is)) (digits_good digits (right_of (is_ascii_digit d) _ is))

pub decimal_good : (number : ℕ) → number < 2 ^ 64 → list_all is_word_byte (decimal number) ≡ true
decimal_good number fits = digits_good (decimal number) (digits_decimal own number fits)

pub start_good : (start : Start) → start.id < 2 ^ 32 → start.number < 2 ^ 32 → list_all is_word_byte (start_text start) ≡ true
start_good start low low' =
    joined (decimal start.id ++ codes ".") (decimal start.number)
    (joined (decimal start.id) (codes ".") (decimal_good start.id (omega arith)) refl) (decimal_good start.number (omega arith))

pub done_good : (done : Done) → list_all is_word_byte (start_text done.start) ≡ true → done.exit < 2 ^ 32
    → list_all is_word_byte (done_text done) ≡ true
done_good done start low =
    joined (start_text done.start ++ codes ".") (decimal done.exit) (joined (start_text done.start) (codes ".") start refl)
    (decimal_good done.exit (omega arith))

name_byte_good : (b : ℕ) → is_name_byte b ≡ true → is_word_byte b ≡ true
name_byte_good b is = grind (arith, nat_tests)

name_bytes_good : (name : List ℕ) → list_all is_name_byte name ≡ true → list_all is_word_byte name ≡ true
name_bytes_good [] is = refl
name_bytes_good (b ∷ name) is =
    both _ _ (name_byte_good b (left_of (is_name_byte b) _ is)) (name_bytes_good name (right_of (is_name_byte b) _ is))

pub name_good : (name : List ℕ) → is_name name ≡ true → list_all is_word_byte name ≡ true
unfolding is_name
name_good name is = name_bytes_good name (right_of _ (list_all is_name_byte name) is)
