-- What the words of a command say, one option after the other.
use Rattle.std.specs.Prelude.{ℕ, ◌+◌, Bool, true, false, if◌then◌else◌, List, [], ◌∷◌, map, Option, Some, None, Ok, Err}
use Rattle.text_values.specs.Arguments.{Part, plain, bad, flag, valued, lacking, parts_left}
use Rattle.text_values.specs.declared.word_refusal.WordKind.{WordKind}
use Rattle.text_values.specs.declared.word_refusal.WordKind.TheVariants.{MissingValue, StrayWord}
use Rattle.sbatch_reader.specs.Entries.{flag_entry, entry_in}
use Rattle.sbatch_reader.specs.Table.{options}
use Rattle.sbatch_reader.specs.declared.table.FlagOption.{FlagOption}
use Rattle.sbatch_reader.specs.declared.table.ValueOption.{ValueOption}
use Rattle.sbatch_reader.specs.declared.table.ValueOption.TheVariants.{Wrap}
use Rattle.text_values.specs.WordRefusal.{told}
use Rattle.sbatch_reader.specs.declared.refusal.Place.{Place}
use Rattle.sbatch_reader.specs.declared.refusal.Place.TheVariants.{Word, Line}
use Rattle.sbatch_reader.specs.declared.said.Source.{Source}
use Rattle.sbatch_reader.specs.declared.said.Source.TheVariants.{Command, ScriptLine}
use Rattle.sbatch_reader.specs.declared.said.Reading.{Reading}
use Rattle.sbatch_reader.specs.declared.said.Said.{Said}

-- the place of a word
abbrev pub place_in : Source → ℕ → Place
place_in Command number = Word (told number)
place_in (ScriptLine line) number = Line (told line)

abbrev pub fault_at : Source → ℕ → WordKind → Said
fault_at source number kind = record { place = place_in source number; what = Err kind }

-- a command that stands for a script is stray where there is a script
abbrev pub is_stray : Bool → ValueOption → Bool
is_stray has_script Wrap = has_script
is_stray has_script option = false

-- What an argument says: of a value at the value's word, of all else at the argument's first word. A missing value
-- would be the word behind its option.
abbrev pub said_of : Reading → Part FlagOption ValueOption → Said
said_of reading (plain number text) = fault_at reading.source number StrayWord
said_of reading (bad number kind) = fault_at reading.source number kind
said_of reading (flag number own) = record { place = place_in reading.source number; what = Ok (flag_entry own) }
said_of reading (valued number option place text) =
    if is_stray reading.has_script option then fault_at reading.source number StrayWord
    else record { place = place_in reading.source place; what = entry_in reading.now option text }
said_of reading (lacking number option) =
    if is_stray reading.has_script option then fault_at reading.source number StrayWord
    else fault_at reading.source (number + 1) MissingValue

-- the arguments of a line
abbrev pub line_parts : List (List ℕ) → List (Part FlagOption ValueOption)
line_parts words = parts_left options words (record { place = 0; ended = false })

-- the arguments of a command behind its name
abbrev pub command_parts : List (List ℕ) → List (Part FlagOption ValueOption)
command_parts words = parts_left options words (record { place = 1; ended = false })

-- the word that names the script: the first that is no option and no value of one
abbrev pub script_in : List (Part FlagOption ValueOption) → Option (ℕ × List ℕ)
script_in [] = None
script_in (plain number text ∷ parts) = Some (number, text)
script_in (part ∷ parts) = script_in parts

-- the arguments before it; those behind it are the script's
abbrev pub before_script : List (Part FlagOption ValueOption) → List (Part FlagOption ValueOption)
before_script [] = []
before_script (plain number text ∷ parts) = []
before_script (part ∷ parts) = part ∷ before_script parts

-- what the words of a line of the script say
abbrev pub line_says : ℕ → ℕ → List (List ℕ) → List Said
line_says now line words =
    map (said_of (record { source = ScriptLine line; has_script = true; now = now })) (line_parts words)

-- what the words of a command say
abbrev pub command_says : ℕ → Bool → List (List ℕ) → List Said
command_says now has_script words =
    map (said_of (record { source = Command; has_script = has_script; now = now }))
    (before_script (command_parts words))
