-- The options behind a line's name, with a colon before each.
use Rattle.std.specs.Prelude.{ℕ, ◌+◌, ◌-◌, Bool, false, not, ◌&&◌, ◌==◌, nat_lt, nat_le, if◌then◌else◌, List, [], ◌∷◌, length, slice_index, slice_range, Option, Some, None, option_map, Result, Ok, ok_or}
use Rattle.std.specs.List.{list_any, onto_first}
use Rattle.std.specs.Str.{byte}
use Rattle.text_values.specs.Steps.{◌>>=◌}
use Rattle.assoc_reader.specs.Cuts.{cut_at}
use Rattle.assoc_reader.specs.declared.refusal.AssocKind.{AssocKind}
use Rattle.assoc_reader.specs.declared.refusal.AssocKind.TheVariants.{BadLine, UnknownKey, BadValue}

-- whether a quote is open behind a byte
abbrev pub quoted_behind : Bool → ℕ → Bool
quoted_behind quoted b = if b == byte "'" then not quoted else quoted

-- a colon outside quotes ends an option
abbrev pub ends_option : Bool → ℕ → Bool
ends_option quoted b = not quoted && b == byte ":"

-- the texts of options, which colons outside quotes part
abbrev pub options_from : Bool → List ℕ → List (List ℕ)
options_from quoted [] = [] ∷ []
options_from quoted (b ∷ text) =
    if ends_option quoted b then [] ∷ options_from quoted text
    else onto_first b (options_from (quoted_behind quoted b) text)

-- how many bytes stand before the first colon outside quotes
abbrev pub option_len : Bool → List ℕ → ℕ
option_len quoted [] = 0
option_len quoted (b ∷ text) = if ends_option quoted b then 0 else 1 + option_len (quoted_behind quoted b) text

-- the options of what follows a colon, and none where nothing does
abbrev pub options_of_rest : Option (List ℕ) → List (List ℕ)
options_of_rest None = []
options_of_rest (Some text) = options_from false text

-- how many bytes are left, the colon before them counted
abbrev pub text_left : Option (List ℕ) → ℕ
text_left None = 0
text_left (Some text) = 1 + length text

-- the options of what follows a name: nothing, or a colon and what stands behind it
abbrev pub options_in : List ℕ → Option (List (List ℕ))
options_in [] = Some []
options_in (b ∷ text) = if b == byte ":" then Some (options_from false text) else None

-- whether a text has a single quote
abbrev pub has_quote : List ℕ → Bool
has_quote text = list_any (λ b. b == byte "'") text

-- a text between its first and its last byte
abbrev pub between_ends : List ℕ → List ℕ
between_ends text = slice_range text 1 (length text - 1)

-- whether a text has quotes as its first and last byte, and no others
abbrev pub is_quoted : List ℕ → Bool
is_quoted text =
    nat_le 2 (length text) && (slice_index text 0 == byte "'"
    && (slice_index text (length text - 1) == byte "'" && not (has_quote (between_ends text))))

-- a value is quoted whole or not at all
unfoldable pub unquoted : List ℕ → Option (List ℕ)
unquoted text =
    if is_quoted text then Some (between_ends text)
    else (if has_quote text then None else Some text)

-- a key isn't empty and has no quotes
abbrev pub is_key : List ℕ → Bool
is_key text = nat_lt 0 (length text) && not (has_quote text)

-- a pair of a key and the text of a value
unfoldable pub pair_of_parts : List ℕ → List ℕ → Option (List ℕ × List ℕ)
pair_of_parts key text = if is_key key then option_map (λ value. (key, value)) (unquoted text) else None

-- the pair of an option that is cut at its equals sign; one without a sign is none
abbrev pub pair_of_cut : Option (List ℕ × List ℕ) → Option (List ℕ × List ℕ)
pair_of_cut None = None
pair_of_cut (Some parts) = pair_of_parts parts.0 parts.1

-- a key and its value, which the option's first equals sign parts
unfoldable pub pair_in : List ℕ → Option (List ℕ × List ℕ)
pair_in option = pair_of_cut (cut_at (byte "=") option)

-- what was said, with one more option
unfoldable pub with_option : {K W : Type 0} → (List ℕ → Option K) → (W → K → List ℕ → Option W)
    → W → List ℕ → Result W AssocKind
with_option key_named with_value words option = do
  pair ← ok_or (pair_in option) BadLine
  key ← ok_or (key_named pair.0) UnknownKey
  ok_or (with_value words key pair.1) BadValue

-- what was said, with more options, the last of a key counting; the first bad one is what is wrong
abbrev pub after_options : {W : Type 0} → (W → List ℕ → Result W AssocKind) → W → List (List ℕ) → Result W AssocKind
after_options step words [] = Ok words
after_options step words (option ∷ options) = step words option >>= λ next. after_options step next options

-- what a line says behind its name, on top of what holds without options
abbrev pub said_by : {W : Type 0} → (W → List ℕ → Result W AssocKind) → W → List ℕ → Result W AssocKind
said_by step before rest = ok_or (options_in rest) BadLine >>= after_options step before
