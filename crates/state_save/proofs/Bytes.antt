-- Of which bytes the words of a saved state are, and how texts with marks between them are cut again.
use Rattle.std.specs.Prelude.{All}
use Rattle.std.proofs.Common.{◌≡◌, ℕ, suc, ◌^◌, ◌<◌, ◌≤◌, ◌==◌, Bool, true, false, not, ◌&&◌, ◌||◌, nat_le, nat_lt, Some, List, [], ◌∷◌, ◌++◌, length, decimal, refl, ap, ◌∙◌, arith}
use Rattle.std.specs.Prelude.{flat_map}
use Rattle.std.specs.Char.{is_ascii_digit, is_ascii_alphanumeric}
use Rattle.std.specs.List.{list_all, onto_first}
use Rattle.std.specs.Str.{all_ascii_digits}
use Rattle.std.specs.Str.Parse.{digits_value}
use Rattle.std.proofs.lemmas.Bool.Decides.{nat_tests}
use Rattle.std.proofs.lemmas.Fmt.{digits_decimal, digits_value-decimal, decimal_nonempty, length-decimal-le}
use Rattle.std.proofs.lemmas.List.{append-nil}
use Rattle.std.proofs.lemmas.List.Folds.{list_all-append}
use Rattle.std.proofs.lemmas.List.Splits.{slice_split-cons_yes, slice_split-cons_no}
use Rattle.std.proofs.lemmas.Str.Parse.{IsNumeralModel, numerals_by_value, tells_all_ascii_digits}
use Rattle.small_texts.specs.Digits.{number_within}
use Rattle.small_texts.specs.Fields.{fields}
use Rattle.small_texts.specs.Name.{is_name_byte, is_printable, is_name, is_job_name}
use Rattle.line_words.specs.Words.{is_word_byte}
use Rattle.state_save.specs.Texts.{joined}

pub both : (a b : Bool) → a ≡ true → b ≡ true → (a && b) ≡ true
both a b p q = rw (p, q) refl

pub both_left : (a b : Bool) → (a && b) ≡ true → a ≡ true
both_left true b e = refl
both_left false b e = absurd (cc)

pub both_right : (a b : Bool) → (a && b) ≡ true → b ≡ true
both_right true b e = e
both_right false b e = absurd (cc)

-- all bytes pass

pub all_append : (p : ℕ → Bool) (xs ys : List ℕ) → list_all p xs ≡ true → list_all p ys ≡ true → list_all p (xs ++ ys) ≡ true
all_append p xs ys one other = list_all-append p xs ys ∙ both _ _ one other

pub all_weaker : (p q : ℕ → Bool) → ((b : ℕ) → p b ≡ true → q b ≡ true) → (xs : List ℕ) → list_all p xs ≡ true → list_all q xs ≡ true
all_weaker p q weak [] all = refl
all_weaker p q weak (x ∷ xs) all =
    both (q x) (list_all q xs) (weak x (both_left (p x) (list_all p xs) all)) (all_weaker p q weak xs (both_right (p x) (list_all p xs) all))

-- texts that pass, with a mark that passes between them
pub all_behind : (p : ℕ → Bool) (mark : ℕ) (texts : List (List ℕ)) → p mark ≡ true → All (λ t. list_all p t ≡ true) texts
    → list_all p (flat_map (λ t. mark ∷ t) texts) ≡ true
all_behind p mark [] marked all = refl
all_behind p mark (text ∷ texts) marked all =
    all_append p (mark ∷ text) (flat_map (λ t. mark ∷ t) texts) (both _ _ marked (all 0 [] (omega arith)))
    (all_behind p mark texts marked (λ k d within. all (suc k) d (omega arith)))

pub all_joined : (p : ℕ → Bool) (mark : ℕ) (texts : List (List ℕ)) → p mark ≡ true → All (λ t. list_all p t ≡ true) texts
    → list_all p (joined mark texts) ≡ true
all_joined p mark [] marked all = refl
all_joined p mark (text ∷ texts) marked all =
    all_append p text (flat_map (λ t. mark ∷ t) texts) (all 0 [] (omega arith))
    (all_behind p mark texts marked (λ k d within. all (suc k) d (omega arith)))

-- classes of bytes

or_left : (a b : Bool) → a ≡ true → (a || b) ≡ true
or_left true b e = refl
or_left false b e = absurd (cc)

digit_alnum : (b : ℕ) → is_ascii_digit b ≡ true → is_ascii_alphanumeric b ≡ true
digit_alnum b e = grind (arith, nat_tests)

digit_named : (b : ℕ) → is_ascii_digit b ≡ true → is_name_byte b ≡ true
digit_named b e = or_left (is_ascii_alphanumeric b) _ (digit_alnum b e)

pub named_word : (b : ℕ) → is_name_byte b ≡ true → is_word_byte b ≡ true
named_word b e = grind (arith, nat_tests)

pub printable_word : (b : ℕ) → is_printable b ≡ true → is_word_byte b ≡ true
printable_word b e = or_left (is_printable b) _ e

-- a byte of names isn't this mark
abbrev pub other_than : ℕ → ℕ → Bool
other_than mark b = not (b == mark)

-- a text has no such byte
abbrev pub lacks : ℕ → List ℕ → Bool
lacks mark text = list_all (other_than mark) text

-- marks that no name has
pub record IsMark (mark : ℕ) : Type 0 where
  pub foreign : (b : ℕ) → is_name_byte b ≡ true → other_than mark b ≡ true
  pub good : is_word_byte mark ≡ true

pub comma : IsMark 44
comma = record { foreign = λ b e. grind (arith, nat_tests); good = refl }

pub semicolon : IsMark 59
semicolon = record { foreign = λ b e. grind (arith, nat_tests); good = refl }

pub colon : IsMark 58
colon = record { foreign = λ b e. grind (arith, nat_tests); good = refl }

pub ampersand : IsMark 38
ampersand = record { foreign = λ b e. grind (arith, nat_tests); good = refl }

pub bar : IsMark 124
bar = record { foreign = λ b e. grind (arith, nat_tests); good = refl }

pub question : IsMark 63
question = record { foreign = λ b e. grind (arith, nat_tests); good = refl }

pub bracket : IsMark 91
bracket = record { foreign = λ b e. grind (arith, nat_tests); good = refl }

-- digits have neither a dash, a dot nor an underscore
digit_no_dash : (b : ℕ) → is_ascii_digit b ≡ true → other_than 45 b ≡ true
digit_no_dash b e = grind (arith, nat_tests)

digit_no_dot : (b : ℕ) → is_ascii_digit b ≡ true → other_than 46 b ≡ true
digit_no_dot b e = grind (arith, nat_tests)

digit_no_underscore : (b : ℕ) → is_ascii_digit b ≡ true → other_than 95 b ≡ true
digit_no_underscore b e = grind (arith, nat_tests)

-- numbers

own : IsNumeralModel (λ ds. all_ascii_digits ds ≡ true) (digits_value 10)
own = numerals_by_value (λ ds. all_ascii_digits ds ≡ true) tells_all_ascii_digits

digits_all : (digits : List ℕ) → all_ascii_digits digits ≡ true → list_all is_ascii_digit digits ≡ true
digits_all [] all = refl
digits_all (d ∷ digits) all =
    both _ _ (both_left (is_ascii_digit d) (all_ascii_digits digits) all) (digits_all digits (both_right (is_ascii_digit d) (all_ascii_digits digits) all))

pub decimal_digits : (number : ℕ) → number < 2 ^ 64 → list_all is_ascii_digit (decimal number) ≡ true
decimal_digits number fits = digits_all (decimal number) (digits_decimal own number fits)

pub decimal_named : (number : ℕ) → number < 2 ^ 64 → list_all is_name_byte (decimal number) ≡ true
decimal_named number fits = all_weaker is_ascii_digit is_name_byte digit_named (decimal number) (decimal_digits number fits)

pub decimal_lacks_dash : (number : ℕ) → number < 2 ^ 64 → lacks 45 (decimal number) ≡ true
decimal_lacks_dash number fits = all_weaker is_ascii_digit (other_than 45) digit_no_dash (decimal number) (decimal_digits number fits)

pub decimal_lacks_dot : (number : ℕ) → number < 2 ^ 64 → lacks 46 (decimal number) ≡ true
decimal_lacks_dot number fits = all_weaker is_ascii_digit (other_than 46) digit_no_dot (decimal number) (decimal_digits number fits)

pub decimal_lacks_underscore : (number : ℕ) → number < 2 ^ 64 → lacks 95 (decimal number) ≡ true
decimal_lacks_underscore number fits = all_weaker is_ascii_digit (other_than 95) digit_no_underscore (decimal number) (decimal_digits number fits)

pub decimal_some : (number : ℕ) → number < 2 ^ 64 → 0 < length (decimal number)
decimal_some number fits = decimal_nonempty number fits

pub at_least : (a b : ℕ) → a ≤ b → nat_le a b ≡ true
at_least a b l = grind (arith, nat_tests)

above : (a b : ℕ) → a < b → nat_lt a b ≡ true
above a b l = grind (arith, nat_tests)

-- a number that is written so is read again
pub decimal_within : (most number greatest : ℕ) → length (decimal number) ≤ most → number ≤ greatest → greatest < 2 ^ 64
    → number_within most greatest (decimal number) ≡ Some number
unfolding number_within
decimal_within most number greatest few low fits =
    rw (
      digits_value-decimal own number (omega arith),
      above 0 (length (decimal number)) (decimal_nonempty number (omega arith)),
      at_least (length (decimal number)) most few,
      digits_decimal own number (omega arith),
      at_least number greatest low,
    ) refl

pub decimal_read : (number greatest : ℕ) → number ≤ greatest → greatest < 2 ^ 64 → number_within 20 greatest (decimal number) ≡ Some number
decimal_read number greatest low fits =
    decimal_within 20 number greatest (length-decimal-le 20 number (omega arith) (omega arith) (omega arith)) low fits

pub decimal_read_ten : (number greatest : ℕ) → number ≤ greatest → greatest < 2 ^ 32 → number_within 10 greatest (decimal number) ≡ Some number
decimal_read_ten number greatest low fits =
    decimal_within 10 number greatest (length-decimal-le 10 number (omega arith) (omega arith) (omega arith)) low (omega arith)

-- names

pub name_named : (name : List ℕ) → is_name name ≡ true → list_all is_name_byte name ≡ true
unfolding is_name
name_named name e = both_right _ (list_all is_name_byte name) e

pub name_some : (name : List ℕ) → is_name name ≡ true → 0 < length name
unfolding is_name
name_some [] e = absurd (cc)
name_some (b ∷ name) e = omega arith

pub job_name_word : (name : List ℕ) → is_job_name name ≡ true → list_all is_word_byte name ≡ true
unfolding is_job_name
job_name_word name e = all_weaker is_printable is_word_byte printable_word name (both_right _ (list_all is_printable name) e)

-- texts that are cut at a mark

not_true : (t : Bool) → not t ≡ true → t ≡ false
not_true true e = absurd (cc)
not_true false e = refl

-- a text without the mark has one field
pub fields_lacking : (mark : ℕ) (text : List ℕ) → lacks mark text ≡ true → fields mark text ≡ text ∷ []
fields_lacking mark [] lack = refl
fields_lacking mark (b ∷ text) lack =
    slice_split-cons_no (λ c. c == mark) b text (not_true (b == mark) (both_left (other_than mark b) (lacks mark text) lack))
    ∙ ap (onto_first b) (fields_lacking mark text (both_right (other_than mark b) (lacks mark text) lack))

same_byte : (b : ℕ) → (b == b) ≡ true
same_byte b = grind (arith, nat_tests)

-- the mark ends the first field
pub fields_marked : (mark : ℕ) (text rest : List ℕ) → lacks mark text ≡ true → fields mark (text ++ mark ∷ rest) ≡ text ∷ fields mark rest
fields_marked mark [] rest lack = slice_split-cons_yes (λ c. c == mark) mark rest (same_byte mark)
fields_marked mark (b ∷ text) rest lack =
    slice_split-cons_no (λ c. c == mark) b (text ++ mark ∷ rest) (not_true (b == mark) (both_left (other_than mark b) (lacks mark text) lack))
    ∙ ap (onto_first b) (fields_marked mark text rest (both_right (other_than mark b) (lacks mark text) lack))

-- texts that were joined are cut again
pub fields_joined : (mark : ℕ) (text : List ℕ) (texts : List (List ℕ)) → All (λ t. lacks mark t ≡ true) (text ∷ texts)
    → fields mark (joined mark (text ∷ texts)) ≡ text ∷ texts
fields_joined mark text [] all =
    ap (fields mark) (append-nil text) ∙ fields_lacking mark text (all 0 [] (omega arith))
fields_joined mark text (next ∷ texts) all =
    fields_marked mark text (joined mark (next ∷ texts)) (all 0 [] (omega arith))
    ∙ ap (λ l. text ∷ l) (fields_joined mark next texts (λ k d within. all (suc k) d (omega arith)))
