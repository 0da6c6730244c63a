-- How a text ends behind its members.
use Rattle.std.specs.Prelude.{◌≢◌}
use Rattle.std.proofs.Common.{◌≡◌, inl, inr, ℕ, ◌+◌, ◌-◌, ◌<◌, Bool, true, false, if◌then◌else◌, ◌==◌, List, [], ◌∷◌, length, arith}
use Rattle.std.specs.List.{onto_first}
use Rattle.state_save.specs.Parts.{end_text, IsBadEnd}
use Rattle.state_save.specs.Reading.{lines_of}

some_lines : (text : List ℕ) → 0 < length text → lines_of text ≢ []
some_lines [] some e = omega arith
some_lines (b ∷ text) some e = by_test (b == 10) (lines_of text) e where
  by_test : (t : Bool) (ls : List (List ℕ)) → (if t then (b ∷ []) ∷ ls else onto_first b ls) ≡ [] → ⊥
  by_test true ls is = cc
  by_test false [] is = cc
  by_test false (l ∷ ls) is = cc

pub no_end : (text rest : List ℕ) (line : ℕ) → line ≡ length (lines_of text) - length (lines_of rest) + 1
    → ((more : List (List ℕ)) → ¬ (lines_of rest ≡ end_text ∷ more)) → IsBadEnd (lines_of text) (lines_of rest) line
no_end text rest line at other = inl (at, other)

pub goes_on : (text rest more : List ℕ) (line : ℕ) → lines_of rest ≡ end_text ∷ lines_of more → 0 < length more
    → line ≡ length (lines_of text) - length (lines_of more) + 1 → IsBadEnd (lines_of text) (lines_of rest) line
goes_on text rest more line cut some at = inr (lines_of more, cut, some_lines more some, at)

pub ends_there : (rest more : List ℕ) → lines_of rest ≡ end_text ∷ lines_of more → length more ≡ 0 → lines_of rest ≡ end_text ∷ []
ends_there rest [] cut none = cut
ends_there rest (b ∷ more) cut none = absurd (omega arith)

pub ruleset end_steps = (no_end, goes_on, ends_there)
