-- What the words of scancel want.
use Rattle.std.specs.Prelude.{ℕ, ◌+◌, Bool, true, false, ◌||◌, if◌then◌else◌, List, [], ◌∷◌, ◌++◌, length, Option, Some, None, map, Result, Ok, Err}
use Rattle.std.specs.List.{list_any}
use Rattle.text_values.specs.Steps.{◌>>=◌}
use Rattle.operands.specs.BadWord.{bad, at_word, good, given}
use Rattle.text_values.specs.Names.{name_in}
use Rattle.operands.specs.Targets.{target_by}
use Rattle.operands.specs.declared.bad_word.BadWord.{BadWord}
use Rattle.text_values.specs.Arguments.{Part, Table, plain, bad as off, flag, valued, lacking, parts_left}
use Rattle.text_values.specs.declared.word_refusal.WordKind.TheVariants.{MissingValue, MissingWord, StrayWord}
use Rattle.request_data.specs.declared.target.Target.{Target}
use Rattle.request_data.specs.declared.target.Targets.{Targets}
use Rattle.request_data.specs.declared.target.Targets.TheVariants.{List as Listed, User}
use Rattle.command_words.specs.declared.cancel.TheConstants.{SCANCEL_OPTIONS}
use Rattle.command_words.specs.declared.cancel.CancelFlag.{CancelFlag}
use Rattle.command_words.specs.declared.cancel.CancelOption.{CancelOption}
use Rattle.command_words.specs.declared.cancel.CancelWords.{CancelWords}

-- the option `--user`, whether its value is good, bad or missing
abbrev pub is_user : Part CancelFlag CancelOption → Bool
is_user (valued number wanted place text) = true
is_user (lacking number wanted) = true
is_user part = false

-- with the target that a word names behind the others
abbrev pub with_target : CancelWords → ℕ → List ℕ → Result CancelWords BadWord
with_target said number text =
    given (λ target. record said { targets = said.targets ++ target ∷ [] }) (at_word number (good (target_by text)))

-- with the user that a value names
abbrev pub with_user : CancelWords → ℕ → List ℕ → Result CancelWords BadWord
with_user said place text = given (λ name. record said { user = Some name }) (at_word place (good (name_in text)))

-- a word names a target, which is stray beside a user, and an option a user, on top of what was said before
abbrev pub with_part : Bool → CancelWords → Part CancelFlag CancelOption → Result CancelWords BadWord
with_part by_user said (plain number text) = if by_user then bad number StrayWord else with_target said number text
with_part by_user said (valued number wanted place text) = with_user said place text
with_part by_user said (flag number none) = Ok said
with_part by_user said (off number kind) = bad number kind
with_part by_user said (lacking number wanted) = bad (number + 1) MissingValue

abbrev pub said_by : Bool → CancelWords → List (Part CancelFlag CancelOption) → Result CancelWords BadWord
said_by by_user said [] = Ok said
said_by by_user said (part ∷ parts) = with_part by_user said part >>= λ more. said_by by_user more parts

abbrev pub nothing_said : CancelWords
nothing_said = record { user = None; targets = [] }

-- the arguments behind the command's name, by a table of its options
abbrev pub cancel_parts : Table CancelFlag CancelOption → List (List ℕ) → List (Part CancelFlag CancelOption)
cancel_parts table words = parts_left table words (record { place = 1; ended = false })

-- whether a user is named in place of targets
unfoldable pub names_user : Table CancelFlag CancelOption → List (List ℕ) → Bool
names_user table words = list_any is_user (cancel_parts table words)

-- what the words behind the command's name say
unfoldable pub cancel_words : Table CancelFlag CancelOption → List (List ℕ) → Result CancelWords BadWord
cancel_words table words = said_by (names_user table words) nothing_said (cancel_parts table words)

-- targets or a user; `end` is the number after the last word
abbrev pub targets_of : ℕ → Option (List ℕ) → List Target → Result Targets BadWord
targets_of end None [] = bad end MissingWord
targets_of end None (target ∷ targets) = Ok (Listed (target ∷ targets))
targets_of end (Some name) targets = Ok (User name)

-- the options of scancel, as they stand in their table
unfoldable pub scancel_options : Table CancelFlag CancelOption
scancel_options = map (λ row. (row.0.now, row.1, row.2)) SCANCEL_OPTIONS

unfoldable pub scancel_by : List (List ℕ) → Result Targets BadWord
scancel_by words =
    cancel_words scancel_options words >>= λ said. targets_of (length words + 1) said.user said.targets
