-- Texts that are cut at a byte, and numbers that are written and read.
use Rattle.std.specs.Prelude.{MatchOption, IfSome}
use Rattle.std.proofs.Common.{Bor, Option, ◌≡◌, ℕ, ◌+◌, ◌^◌, ◌<◌, ◌≤◌, ◌==◌, Bool, true, false, not, cond, ltb, ◌&&◌, nat_eq, nat_lt, nat_le, None, Some, List, [], ◌∷◌, ◌++◌, length, take, drop, decimal, refl, sym, ap, ◌∙◌, subst, arith, append_assoc, length-append}
use Rattle.std.specs.Char.{is_ascii_digit}
use Rattle.std.specs.List.{position, position_or_len}
use Rattle.std.specs.Str.{all_ascii_digits}
use Rattle.std.specs.Str.Parse.{digits_value}
use Rattle.std.proofs.lemmas.Bool.{eqb-true}
use Rattle.std.proofs.lemmas.Bool.Decides.{nat_tests}
use Rattle.std.proofs.lemmas.Fmt.{digits_decimal, digits_value-decimal, decimal_nonempty, length-decimal-le}
use Rattle.std.proofs.lemmas.List.{get_or_append_left, get_or_at, get_or-take, take_at, drop_at, length-take}
use Rattle.std.proofs.lemmas.List.Folds.{list_all-append}
use Rattle.std.proofs.lemmas.List.Sums.{AllPass-from_list_all, list_all-from_AllPass, fails_before_first, position_or_len_is, passes_at_first, split_at_first}
use Rattle.std.proofs.lemmas.Str.Parse.{IsNumeralModel, numerals_by_value, tells_all_ascii_digits}
use Rattle.small_texts.specs.Digits.{number_within}
use Rattle.orders_text.specs.Fields.{IsCut, IsField, lacks}

-- tests

not_true : (b : Bool) → not b ≡ true → b ≡ false
not_true true e = absurd (cc)
not_true false e = refl

is_false : (b : Bool) → b ≡ false → not b ≡ true
is_false true e = absurd (cc)
is_false false e = refl

same_byte : (b : ℕ) → (b == b) ≡ true
same_byte b = grind (arith, nat_tests)

below : (a b : ℕ) → a < b → ltb a b ≡ true
below a b l = grind (arith, nat_tests)

smaller : (a b : ℕ) → ltb a b ≡ true → a < b
smaller a b e = grind (arith, nat_tests)

not_smaller : (a b : ℕ) → ltb a b ≡ false → b ≤ a
not_smaller a b e = grind (arith, nat_tests)

pub both : (a b : Bool) → a ≡ true → b ≡ true → (a && b) ≡ true
both a b p q = rw (p, q) refl

-- the first byte of a value

abbrev is_mark : ℕ → ℕ → Bool
is_mark mark b = b == mark

first_mark : (mark : ℕ) (front back : List ℕ) → lacks mark front ≡ true
    → position_or_len (is_mark mark) (front ++ mark ∷ back) ≡ length front
first_mark mark front back lack =
    position_or_len_is (is_mark mark) (front ++ mark ∷ back) (length front) 0
    (simp length-append (omega arith))
    (λ k l. rw get_or_append_left (not_true _ (AllPass-from_list_all (λ b. not (nat_eq b mark)) front lack k 0 l)))
    (λ l. ap (is_mark mark) (get_or_at front mark back 0 (length front) refl) ∙ same_byte mark)

found_is : (c : Bool) (n at : ℕ) → cond c (Some n) None ≡ Some at → (c ≡ true) × (n ≡ at)
found_is true n at e = (refl, cc)
found_is false n at e = absurd (cc)

missed_is : (c : Bool) (n : ℕ) → cond c (Some n) None ≡ None → c ≡ false
missed_is true n e = absurd (cc)
missed_is false n e = refl

-- where a text is cut, its first byte of that value stands
pub position_cut : (text : List ℕ) (mark : ℕ) (front back : List ℕ) → IsCut text mark front back
    → position (is_mark mark) text ≡ Some (length front)
position_cut text mark front back cut =
    let at = ap (position_or_len (is_mark mark)) cut.cut ∙ first_mark mark front back cut.first in
    let within : length front < length text = omega (arith, ap length cut.cut, length-append front (mark ∷ back)) in
    rw (at, below (length front) (length text) within) refl

lacks_before : (mark : ℕ) (text : List ℕ) (n : ℕ) → n ≤ position_or_len (is_mark mark) text → lacks mark (take n text) ≡ true
lacks_before mark text n first =
    list_all-from_AllPass (λ b. not (nat_eq b mark)) (take n text) (λ k d l.
    let low : k < n = omega (arith, length-take n text) in
    rw (get_or-take n text k d low) (is_false _ (fails_before_first (is_mark mark) text k d (omega arith))))

pub cut_found : (text : List ℕ) (mark at : ℕ) → position (is_mark mark) text ≡ Some at
    → IsCut text mark (take at text) (drop (at + 1) text)
cut_found text mark at found =
    let (test, same) = found_is _ _ at found in
    let within = smaller _ _ test in record {
      cut = subst (λ n. text ≡ take n text ++ mark ∷ drop (n + 1) text) same
          (split_at_first (is_mark mark) text 0 within
          ∙ ap (λ b. take (position_or_len (is_mark mark) text) text ++ b ∷ drop (position_or_len (is_mark mark) text + 1) text)
          (eqb-true _ mark (passes_at_first (is_mark mark) text 0 within)));
      first = lacks_before mark text at (omega arith);
    }

pub lacks_all : (text : List ℕ) (mark : ℕ) → position (is_mark mark) text ≡ None → lacks mark text ≡ true
lacks_all text mark none =
    let far = not_smaller _ _ (missed_is _ _ none) in
    list_all-from_AllPass (λ b. not (nat_eq b mark)) text (λ k d l.
    is_false _ (fails_before_first (is_mark mark) text k d (omega arith)))

pub parts_told : (text : List ℕ) (mark at : ℕ) (front back : List ℕ) → position (is_mark mark) text ≡ Some at
    → IsCut text mark front back → (take at text ≡ front) × (drop (at + 1) text ≡ back)
parts_told text mark at front back found cut =
    let both : Some at ≡ Some (length front) = sym found ∙ position_cut text mark front back cut in
    let same : at ≡ length front = cc in (
      ap (take at) cut.cut ∙ take_at front (mark ∷ back) at (sym same),
      ap (drop (at + 1)) (cut.cut ∙ sym (append_assoc front (mark ∷ []) back))
          ∙ drop_at (front ++ mark ∷ []) back (at + 1) (length-append front (mark ∷ []) ∙ omega arith),
    )

-- digits

own : IsNumeralModel (λ ds. all_ascii_digits ds ≡ true) (digits_value 10)
own = numerals_by_value (λ ds. all_ascii_digits ds ≡ true) tells_all_ascii_digits

no_digit : (mark d : ℕ) → mark < 48 → is_ascii_digit d ≡ true → not (nat_eq d mark) ≡ true
no_digit mark d low is = grind (arith, nat_tests)

both_left : (a b : Bool) → (a && b) ≡ true → a ≡ true
both_left true b e = refl
both_left false b e = absurd (cc)

both_right : (a b : Bool) → (a && b) ≡ true → b ≡ true
both_right true b e = e
both_right false b e = absurd (cc)

digits_lack : (mark : ℕ) (digits : List ℕ) → mark < 48 → all_ascii_digits digits ≡ true → lacks mark digits ≡ true
digits_lack mark [] low is = refl
digits_lack mark (d ∷ digits) low is =
    both _ _ (no_digit mark d low (both_left (is_ascii_digit d) _ is)) (digits_lack mark digits low (both_right (is_ascii_digit d) _ is))

pub decimal_lacks : (mark number : ℕ) → mark < 48 → number < 2 ^ 64 → lacks mark (decimal number) ≡ true
decimal_lacks mark number low fits = digits_lack mark (decimal number) low (digits_decimal own number fits)

at_least : (a b : ℕ) → a ≤ b → nat_le a b ≡ true
at_least a b l = grind (arith, nat_tests)

above : (a b : ℕ) → a < b → nat_lt a b ≡ true
above a b l = grind (arith, nat_tests)

-- a number that is written so is read again
pub decimal_read : (number greatest : ℕ) → number ≤ greatest → greatest < 2 ^ 64
    → number_within 20 greatest (decimal number) ≡ Some number
unfolding number_within
decimal_read number greatest low fits =
    let few = length-decimal-le 20 number (omega arith) (omega arith) (omega arith) in
    rw (
      digits_value-decimal own number (omega arith),
      above 0 (length (decimal number)) (decimal_nonempty number (omega arith)),
      at_least (length (decimal number)) 20 few,
      digits_decimal own number (omega arith),
      at_least number greatest low,
    ) refl

-- what a text lacks

pub lacks_append : (mark : ℕ) (front back : List ℕ) → lacks mark front ≡ true → lacks mark back ≡ true
    → lacks mark (front ++ back) ≡ true
lacks_append mark front back one other = list_all-append (λ b. not (nat_eq b mark)) front back ∙ both _ _ one other

other_byte : (mark b : ℕ) → mark < b → not (nat_eq b mark) ≡ true
other_byte mark b low = grind (arith, nat_tests)

pub lacks_one : (mark b : ℕ) → mark < b → lacks mark (b ∷ []) ≡ true
lacks_one mark b low = both _ _ (other_byte mark b low) refl

pub lacks_no_cut : (text : List ℕ) (mark : ℕ) (front back : List ℕ) → IsCut text mark front back → lacks mark text ≡ true → ⊥
lacks_no_cut text mark front back cut lack =
    let Lacks : List ℕ → Type 0 = λ t. lacks mark t ≡ true in
    let all = subst Lacks cut.cut lack in
    let later = both_right (lacks mark front) _ (sym (list_all-append (λ b. not (nat_eq b mark)) front (mark ∷ back)) ∙ all) in
    let no : not (nat_eq mark mark) ≡ true = both_left _ (lacks mark back) later in
    let here : true ≡ false = sym (same_byte mark) ∙ not_true (nat_eq mark mark) no in
    absurd (cc)

-- a text is cut in one way only
pub cut_once : (mark : ℕ) (front back other rest : List ℕ) → lacks mark front ≡ true → lacks mark other ≡ true
    → front ++ mark ∷ back ≡ other ++ mark ∷ rest → (front ≡ other) × (back ≡ rest)
cut_once mark front back other rest lack lack' is =
    let text = front ++ mark ∷ back in
    let one : IsCut text mark front back = record { cut = refl; first = lack } in
    let two : IsCut text mark other rest = record { cut = is; first = lack' } in
    let at = position_cut text mark front back one in
    let told = parts_told text mark (length front) front back at one in
    let told' = parts_told text mark (length front) other rest at two in
    (sym told.0 ∙ told'.0, sym told.1 ∙ told'.1)

-- a value behind a label

pub field_found : (text label behind : List ℕ) (mark : ℕ) (r : Option (Bor (List ℕ) × Bor (List ℕ)))
    → text ≡ label ++ behind
    → MatchOption r (lacks mark behind ≡ true) (λ parts. IsCut behind mark parts.0.now parts.1.now)
    → IfSome r (λ parts. IsField text label mark parts.0.now parts.1.now)
field_found text label behind mark None is found = tt
field_found text label behind mark (Some parts) is found =
    record { cut = is ∙ ap (λ t. label ++ t) found.cut; first = found.first }

pub line_cut : (text body back : List ℕ) (mark : ℕ) → IsCut text mark body back
    → take (length body + 1) text ≡ body ++ mark ∷ []
line_cut text body back mark cut =
    ap (take (length body + 1)) (cut.cut ∙ sym (append_assoc body (mark ∷ []) back))
    ∙ take_at (body ++ mark ∷ []) back (length body + 1) (length-append body (mark ∷ []) ∙ omega arith)
