-- The first line of a text.
use Rattle.std.proofs.Common.{◌≡◌, ℕ, ◌+◌, ◌<◌, ◌≤◌, ◌==◌, Bool, true, false, not, cond, ltb, Some, None, List, [], ◌∷◌, ◌++◌, length, take, drop, refl, sym, ap, ◌∙◌, subst, arith, append_assoc, length-append}
use Rattle.std.specs.List.{position, position_or_len}
use Rattle.std.proofs.lemmas.Bool.{eqb-true}
use Rattle.std.proofs.lemmas.Bool.Decides.{nat_tests}
use Rattle.std.proofs.lemmas.List.{get_or-take, length-take, take_at}
use Rattle.std.proofs.lemmas.List.Sums.{list_all-from_AllPass, fails_before_first, passes_at_first, split_at_first}
use Rattle.state_save.specs.Reading.{lines_of}
use Rattle.state_save.proofs.Bytes.{lacks, other_than, both_left, both_right}
use Rattle.state_save.proofs.OneLine.{lines_of-line}

is_false : (b : Bool) → b ≡ false → not b ≡ true
is_false true e = absurd (cc)
is_false false e = refl

smaller : (a b : ℕ) → ltb a b ≡ true → a < b
smaller a b e = grind (arith, nat_tests)

not_smaller : (a b : ℕ) → ltb a b ≡ false → b ≤ a
not_smaller a b e = grind (arith, nat_tests)

found_is : (c : Bool) (n at : ℕ) → cond c (Some n) None ≡ Some at → (c ≡ true) × (n ≡ at)
found_is true n at e = (refl, cc)
found_is false n at e = absurd (cc)

missed_is : (c : Bool) (n : ℕ) → cond c (Some n) None ≡ None → c ≡ false
missed_is true n e = absurd (cc)
missed_is false n e = refl

abbrev ends : ℕ → Bool
ends b = b == 10

lacks_before : (text : List ℕ) (n : ℕ) → n ≤ position_or_len ends text → lacks 10 (take n text) ≡ true
lacks_before text n first =
    list_all-from_AllPass (other_than 10) (take n text) (λ k d l.
    let low : k < n = omega (arith, length-take n text) in
    rw (get_or-take n text k d low) (is_false _ (fails_before_first ends text k d (omega arith))))

record Cut (text : List ℕ) (at : ℕ) : Type 0 where
  cut : text ≡ take at text ++ 10 ∷ drop (at + 1) text
  first : lacks 10 (take at text) ≡ true
  within : at < length text

cut_found : (text : List ℕ) (at : ℕ) → position ends text ≡ Some at → Cut text at
cut_found text at found =
    let (test, same) = found_is _ _ at found in
    let within = smaller _ _ test in record {
      cut = subst (λ n. text ≡ take n text ++ 10 ∷ drop (n + 1) text) same
          (split_at_first ends text 0 within
          ∙ ap (λ b. take (position_or_len ends text) text ++ b ∷ drop (position_or_len ends text + 1) text)
          (eqb-true _ 10 (passes_at_first ends text 0 within)));
      first = lacks_before text at (omega arith);
      within = omega arith;
    }

lacks_all : (text : List ℕ) → position ends text ≡ None → lacks 10 text ≡ true
lacks_all text none =
    let far = not_smaller _ _ (missed_is _ _ none) in
    list_all-from_AllPass (other_than 10) text (λ k d l. is_false _ (fails_before_first ends text k d (omega arith)))

-- the line is the front of the text, up to the end of the line
taken : (text : List ℕ) (at : ℕ) → Cut text at → take (at + 1) text ≡ take at text ++ 10 ∷ []
taken text at c =
    let w = c.within in
    ap (take (at + 1)) (c.cut ∙ sym (append_assoc (take at text) (10 ∷ []) (drop (at + 1) text)))
    ∙ take_at (take at text ++ 10 ∷ []) (drop (at + 1) text) (at + 1)
    (length-append (take at text) (10 ∷ []) ∙ omega (arith, length-take at text))

pub first_ended : (text : List ℕ) (at : ℕ) → position ends text ≡ Some at → lines_of text ≡ take (at + 1) text ∷ lines_of (drop (at + 1) text)
first_ended text at found =
    let c = cut_found text at found in
    ap lines_of c.cut ∙ lines_of-line (take at text) (drop (at + 1) text) c.first
    ∙ ap (λ l. l ∷ lines_of (drop (at + 1) text)) (sym (taken text at c))

lone : (b : ℕ) (text : List ℕ) → lacks 10 (b ∷ text) ≡ true → lines_of (b ∷ text) ≡ (b ∷ text) ∷ []
lone b [] lack = rw (not_true (b == 10) (both_left (other_than 10 b) true lack)) refl where
  not_true : (t : Bool) → not t ≡ true → t ≡ false
  not_true true e = absurd (cc)
  not_true false e = refl
lone b (next ∷ text) lack =
    rw (not_true (b == 10) (both_left (other_than 10 b) (lacks 10 (next ∷ text)) lack), lone next text (both_right (other_than 10 b) (lacks 10 (next ∷ text)) lack)) refl
  where
    not_true : (t : Bool) → not t ≡ true → t ≡ false
    not_true true e = absurd (cc)
    not_true false e = refl

pub first_open : (text : List ℕ) → position ends text ≡ None → 0 < length text → lines_of text ≡ text ∷ []
first_open [] none some = absurd (omega arith)
first_open (b ∷ text) none some = lone b text (lacks_all (b ∷ text) none)

pub ruleset first_lines = (first_ended, first_open)
