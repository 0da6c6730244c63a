-- The key and the value of a word.
use Rattle.std.specs.Prelude.{ℕ, ◌+◌, ◌-◌, Bool, not, ◌&&◌, ◌==◌, nat_lt, nat_le, if◌then◌else◌, Option, Some, None, option_map, List, length, take, drop, position, slice_index, slice_range}
use Rattle.std.specs.List.{list_any}
use Rattle.std.specs.Str.{byte}
use Rattle.conf_reader.specs.declared.pairs.KeyValue.{KeyValue}

pub record Pair : Type 0 where
  pub key : List ℕ
  pub value : List ℕ

abbrev pub has_quote : List ℕ → Bool
has_quote text = list_any (λ b. b == byte "\"") text

-- a text between its first and its last byte
abbrev pub between_ends : List ℕ → List ℕ
between_ends text = slice_range text 1 (length text - 1)

-- whether a text has quotes as its first and last byte, and no others
abbrev pub is_quoted : List ℕ → Bool
is_quoted text =
    nat_le 2 (length text) && (slice_index text 0 == byte "\""
    && (slice_index text (length text - 1) == byte "\"" && not (has_quote (between_ends text))))

-- a value is quoted whole or not at all
unfoldable pub unquoted : List ℕ → Option (List ℕ)
unquoted text =
    if is_quoted text then Some (between_ends text)
    else (if has_quote text then None else Some text)

-- a key isn't empty and has no quotes
abbrev pub is_key : List ℕ → Bool
is_key text = nat_lt 0 (length text) && not (has_quote text)

-- a pair of a key and the text of a value
unfoldable pub pair_of_parts : List ℕ → List ℕ → Option Pair
pair_of_parts key text =
    if is_key key then option_map (λ value. record { key = key; value = value }) (unquoted text)
    else None

abbrev pub pair_at : List ℕ → Option ℕ → Option Pair
pair_at word None = None
pair_at word (Some at) = pair_of_parts (take at word) (drop (at + 1) word)

-- a key and a value, which the word's first equals sign parts
unfoldable pub pair_in : List ℕ → Option Pair
pair_in word = pair_at word (position (λ b. b == byte "=") word)

-- what a pair of the reader says
abbrev pub pair_of : KeyValue → Pair
pair_of pair = record { key = pair.key.now; value = pair.value.now }
