-- What the words of a line say.
use Rattle.std.specs.Prelude.{ℕ, List, [], ◌∷◌, map, fold, Option, Some, None, Result, Ok, Err, ok_or}
use Rattle.conf_reader.specs.LineWords.{words_in}
use Rattle.conf_reader.specs.Pairs.{pair_in}
use Rattle.text_values.specs.Steps.{◌>>=◌}
use Rattle.text_values.specs.declared.conf_refusal.ConfKind.{ConfKind}
use Rattle.text_values.specs.declared.conf_refusal.ConfKind.TheVariants.{BadPair, UnknownKey, BadValue}

-- what a word says, by the keys of its line's kind and by how their values are read
unfoldable pub entry_in : {K E : Type 0} → (List ℕ → Option K) → (K → List ℕ → Option E) → List ℕ → Result E ConfKind
entry_in key_named value_of word = do
  pair ← ok_or (pair_in word) BadPair
  key ← ok_or (key_named pair.key) UnknownKey
  ok_or (value_of key pair.value) BadValue

-- a value, unless something is wrong with it
abbrev pub unless : {E : Type 0} → Option ConfKind → E → Result E ConfKind
unless None entry = Ok entry
unless (Some kind) entry = Err kind

-- the first of the errors, or all values
abbrev pub all_ok : {X E : Type 0} → List (Result X E) → Result (List X) E
all_ok [] = Ok []
all_ok (result ∷ results) = result >>= λ x. all_ok results >>= λ xs. Ok (x ∷ xs)

-- what was said, and what the words of a line say on top of it, the last of a kind counting
unfoldable pub said_by : {K E : Type 0} → (K → E → K) → (List ℕ → Result E ConfKind) → K → List ℕ → Result K ConfKind
said_by with_entry entry_of before line =
    all_ok (map entry_of (words_in line)) >>= λ entries. Ok (fold with_entry before entries)
