-- The first option of a text, cut off, and the options of what follows it.
use Rattle.std.proofs.Common.{ℕ, suc, cond, ◌≡◌, ◌+◌, ◌-◌, ◌<◌, Bool, true, false, List, [], ◌∷◌, length, take, drop, refl, ap, one-add, arith}
use Rattle.std.specs.List.{onto_first}
use Rattle.std.proofs.lemmas.Grind.{common_steps}
use Rattle.assoc_reader.specs.Options.{quoted_behind, ends_option, option_len, options_from}

-- a colon ends an option only where no quote is open
closed : (quoted : Bool) (b : ℕ) → ends_option quoted b ≡ true → quoted ≡ false
closed true b e = cc
closed false b e = refl

abbrev Cut : Bool → List ℕ → Type 0
Cut quoted text = option_len quoted text < length text → options_from quoted text ≡ take (option_len quoted text) text ∷ options_from false (drop (option_len quoted text + 1) text)

cut-cons : (quoted : Bool) (b : ℕ) (text : List ℕ) → Cut (quoted_behind quoted b) text → Cut quoted (b ∷ text)
cut-cons quoted b text more = by_end (ends_option quoted b) refl where
  by_end : (t : Bool) → ends_option quoted b ≡ t → cond t 0 (1 + option_len (quoted_behind quoted b) text) < length (b ∷ text)
      → cond t ([] ∷ options_from quoted text) (onto_first b (options_from (quoted_behind quoted b) text)) ≡ take (cond t 0 (1 + option_len (quoted_behind quoted b) text)) (b ∷ text) ∷ options_from false (drop (cond t 0 (1 + option_len (quoted_behind quoted b) text) + 1) (b ∷ text))
  by_end true e less = ap (λ (q : Bool). [] ∷ options_from q text) (closed quoted b e)
  by_end false e less =
      let here = more (omega arith) in
      let next : 1 + option_len (quoted_behind quoted b) text + 1 ≡ suc (option_len (quoted_behind quoted b) text + 1) = omega arith in
      rw (next, one-add (option_len (quoted_behind quoted b) text), here) refl

cut : (quoted : Bool) (text : List ℕ) → Cut quoted text
cut quoted [] = λ less. absurd (omega arith)
cut quoted (b ∷ text) = cut-cons quoted b text (cut (quoted_behind quoted b) text)

abbrev Whole : Bool → List ℕ → Type 0
Whole quoted text = option_len quoted text ≡ length text → options_from quoted text ≡ text ∷ []

whole-cons : (quoted : Bool) (b : ℕ) (text : List ℕ) → Whole (quoted_behind quoted b) text → Whole quoted (b ∷ text)
whole-cons quoted b text more = by_end (ends_option quoted b) where
  by_end : (t : Bool) → cond t 0 (1 + option_len (quoted_behind quoted b) text) ≡ length (b ∷ text)
      → cond t ([] ∷ options_from quoted text) (onto_first b (options_from (quoted_behind quoted b) text)) ≡ (b ∷ text) ∷ []
  by_end true all = absurd (omega arith)
  by_end false all =
      let here = more (omega arith) in
      rw here refl

whole : (quoted : Bool) (text : List ℕ) → Whole quoted text
whole quoted [] = λ all. refl
whole quoted (b ∷ text) = whole-cons quoted b text (whole (quoted_behind quoted b) text)

-- what follows a number of bytes, as a slice gives it
rest-of : (n : ℕ) (text : List ℕ) → take (length text - n) (drop n text) ≡ drop n text
rest-of n text = grind (arith, common_steps)

pub first_of_more : (text : List ℕ) → option_len false text < length text → options_from false text ≡ take (option_len false text) text ∷ options_from false (take (length text - (option_len false text + 1)) (drop (option_len false text + 1) text))
first_of_more text less = rw (rest-of (option_len false text + 1) text) (cut false text less)

pub only_one : (text : List ℕ) → option_len false text ≡ length text → options_from false text ≡ text ∷ []
only_one text all = whole false text all
