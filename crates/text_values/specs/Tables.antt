-- Words that count in any case of their letters.
use Rattle.std.specs.Prelude.{ℕ, Bool, List, Option, option_map, find}
use Rattle.std.specs.Str.{str_eq_ignore_ascii_case}

-- a word in any case of its letters
abbrev pub is_word : List ℕ → List ℕ → Bool
is_word word text = str_eq_ignore_ascii_case text word

-- what a text stands for in a table, in any case of letters
abbrev pub key_named : {K : Type 0} → List (List ℕ × K) → List ℕ → Option K
key_named table text = option_map (λ row. row.1) (find (λ row. str_eq_ignore_ascii_case text row.0) table)
