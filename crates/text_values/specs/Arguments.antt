-- What the words of a command are: options with their values, and other words.
use Rattle.std.specs.Prelude.{ℕ, ◌+◌, ◌==◌, Bool, false, if◌then◌else◌, List, [], ◌∷◌, take, drop, map, find, position, bytes_eq, codes, Option, Some, None, option_map}
use Rattle.std.specs.Borrow.{Bor}
use Rattle.std.specs.List.{cons_option}
use Rattle.std.specs.Str.{byte}
use Rattle.text_values.specs.declared.arguments.Takes.{Takes}
use Rattle.text_values.specs.declared.arguments.Takes.TheVariants.{Nothing, Value, Maybe}
use Rattle.text_values.specs.declared.arguments.Argument.{Argument}
use Rattle.text_values.specs.declared.arguments.Argument.TheVariants.{Plain, Bad, Flag, Valued, Lacking}
use Rattle.text_values.specs.declared.arguments.Cursor.{Cursor}
use Rattle.text_values.specs.declared.word_refusal.WordKind.{WordKind}
use Rattle.text_values.specs.declared.word_refusal.WordKind.TheVariants.{UnknownOption, BadValue}

-- a part of a command; words have numbers
pub data Part (F V : Type 0) : Type 0 where
  -- a word that is no option and no value of one
  plain : ℕ → List ℕ → Part F V
  -- an option that isn't there, or isn't written as it must be
  bad : ℕ → WordKind → Part F V
  -- an option without a value
  flag : ℕ → F → Part F V
  -- an option, and the value that it has in a word
  valued : ℕ → V → ℕ → List ℕ → Part F V
  -- an option that wants a value where no word is left
  lacking : ℕ → V → Part F V

-- options: of each the long name, the letter, if it has one, and what it takes
abbrev pub Table : Type 0 → Type 0 → Type 0
Table F V = List (List ℕ × Option ℕ × Takes F V)

-- the option of a long name
abbrev pub named : {F V : Type 0} → Table F V → List ℕ → Option (Takes F V)
named table name = option_map (λ row. row.2) (find (λ row. bytes_eq name row.0) table)

abbrev pub is_letter : ℕ → Option ℕ → Bool
is_letter letter None = false
is_letter letter (Some own) = own == letter

-- the option of a letter
abbrev pub lettered : {F V : Type 0} → Table F V → ℕ → Option (Takes F V)
lettered table letter = option_map (λ row. row.2) (find (λ row. is_letter letter row.1) table)

-- whether a word begins with a dash and goes on
abbrev pub is_dashed : List ℕ → Bool
is_dashed (mark ∷ next ∷ text) = mark == byte "-"
is_dashed word = false

-- `--` ends the options
abbrev pub is_end : List ℕ → Bool
is_end word = bytes_eq word (codes "--")

abbrev pub up_to : Option ℕ → List ℕ → List ℕ
up_to None text = text
up_to (Some place) text = take place text

abbrev pub behind : Option ℕ → List ℕ → Option (List ℕ)
behind None text = None
behind (Some place) text = Some (drop (place + 1) text)

abbrev pub equals_place : List ℕ → Option ℕ
equals_place text = position (λ b. b == byte "=") text

abbrev pub unless_empty : List ℕ → Option (List ℕ)
unless_empty [] = None
unless_empty (b ∷ text) = Some (b ∷ text)

-- The option that a word with a dash names, and the value in that word: what stands behind `=` of `--name=value`,
-- or behind the letter of `-xvalue`.
abbrev pub option_in : {F V : Type 0} → Table F V → List ℕ → Option (Takes F V) × Option (List ℕ)
option_in table (mark ∷ next ∷ text) =
    if next == byte "-" then (named table (up_to (equals_place text) text), behind (equals_place text) text)
    else (lettered table next, unless_empty text)
option_in table word = (None, None)

-- an option that wants the next word as its value
abbrev pub wanting : {F V : Type 0} → ℕ → Option (Takes F V) → Option (List ℕ) → Option (ℕ × V)
wanting number (Some (Value option)) None = Some (number, option)
wanting number takes value = None

-- an option that doesn't
abbrev pub alone : {F V : Type 0} → ℕ → Option (Takes F V) → Option (List ℕ) → Option (Part F V)
alone number None value = Some (bad number UnknownOption)
alone number (Some (Nothing own)) None = Some (flag number own)
alone number (Some (Nothing own)) (Some value) = Some (bad number BadValue)
alone number (Some (Value option)) None = None
alone number (Some (Value option)) (Some value) = Some (valued number option number value)
alone number (Some (Maybe own option)) None = Some (flag number own)
alone number (Some (Maybe own option)) (Some value) = Some (valued number option number value)

-- words that are no options, from a number on
abbrev pub plains : {F V : Type 0} → ℕ → List (List ℕ) → List (Part F V)
plains number [] = []
plains number (word ∷ words) = plain number word ∷ plains (number + 1) words

-- what words from a number on are, where an option before them may want the first as its value
abbrev pub parts : {F V : Type 0} → Table F V → ℕ → Option (ℕ × V) → List (List ℕ) → List (Part F V)
parts table number None [] = []
parts table number (Some wanted) [] = lacking wanted.0 wanted.1 ∷ []
parts table number (Some wanted) (value ∷ words) =
    valued wanted.0 wanted.1 number value ∷ parts table (number + 1) None words
parts table number None (word ∷ words) =
    if is_end word then plains (number + 1) words
    else (if is_dashed word
    then (let named = option_in table word in
    cons_option (alone number named.0 named.1) (parts table (number + 1) (wanting number named.0 named.1) words))
    else plain number word ∷ parts table (number + 1) None words)

-- what the words from a place on are, where no option stands before them; the word at place 0 has number 1
abbrev pub parts_from : {F V : Type 0} → Table F V → List (List ℕ) → ℕ → List (Part F V)
parts_from table words place = parts table (place + 1) None (drop place words)

abbrev pub plains_from : {F V : Type 0} → List (List ℕ) → ℕ → List (Part F V)
plains_from words place = plains (place + 1) (drop place words)

-- what is left of a command
unfoldable pub parts_left : {F V : Type 0} → Table F V → List (List ℕ) → Cursor → List (Part F V)
parts_left table words cursor =
    if cursor.ended then plains_from words cursor.place else parts_from table words cursor.place

-- an argument as a part of the command
abbrev pub part_of : {F V : Type 0} → Argument F V → Part F V
part_of (Plain number text) = plain number text.now
part_of (Bad number kind) = bad number kind
part_of (Flag number own) = flag number own
part_of (Valued number option place text) = valued number option place text.now
part_of (Lacking number option) = lacking number option

-- the number of the last word of a part
abbrev pub last_number : {F V : Type 0} → Part F V → ℕ
last_number (plain number text) = number
last_number (bad number kind) = number
last_number (flag number own) = number
last_number (valued number option place text) = place
last_number (lacking number option) = number

-- the rows of a table
abbrev pub rows : {F V : Type 0} → List (Bor (List ℕ) × Option ℕ × Takes F V) → Table F V
rows table = map (λ row. (row.0.now, row.1, row.2)) table
