-- What the options of squeue, sinfo and sprio say.
use Rattle.std.specs.Prelude.{ℕ, ◌+◌, true, false, nat_lt, if◌then◌else◌, List, [], ◌∷◌, length, Option, Some, None, map, Result, Ok, Err}
use Rattle.text_values.specs.Steps.{◌>>=◌}
use Rattle.operands.specs.BadWord.{bad, at_word, good, given}
use Rattle.text_values.specs.Names.{name_in}
use Rattle.operands.specs.Targets.{states_by, targets_by}
use Rattle.operands.specs.declared.bad_word.BadWord.{BadWord}
use Rattle.text_values.specs.Arguments.{Part, Table, plain, bad as off, flag, valued, lacking, parts_left}
use Rattle.text_values.specs.declared.word_refusal.WordKind.{WordKind}
use Rattle.text_values.specs.declared.word_refusal.WordKind.TheVariants.{MissingValue, BadValue, StrayWord, TooLong}
use Rattle.request_data.specs.declared.query.JobQuery.{JobQuery}
use Rattle.request_data.specs.declared.query.Piece.{Piece}
use Rattle.request_data.specs.declared.query.Query.{Query}
use Rattle.request_data.specs.declared.query.Query.TheVariants.{Squeue, Sinfo, Sprio}
use Rattle.request_data.specs.declared.query.Who.TheVariants.{Anyone, Asker, User}
use Rattle.operands.specs.Format.{format_in}
use Rattle.command_words.specs.declared.queries.TheConstants.{SQUEUE_OPTIONS, SINFO_OPTIONS, SPRIO_OPTIONS}
use Rattle.command_words.specs.declared.queries.QueryFlag.{QueryFlag}
use Rattle.command_words.specs.declared.queries.QueryFlag.TheVariants.{NoHeader, Start, Me}
use Rattle.command_words.specs.declared.queries.QueryOption.{QueryOption}
use Rattle.command_words.specs.declared.queries.QueryOption.TheVariants as option
use Rattle.command_words.specs.declared.queries.QueryEntry.{QueryEntry}
use Rattle.command_words.specs.declared.queries.QueryEntry.TheVariants.{NoTitles, Starts, Whose, Jobs, Partition, States, Format}

abbrev pub unless_long : List ℕ → Option (List Piece) → Result (List Piece) WordKind
unless_long text None = Err BadValue
unless_long text (Some pieces) = if nat_lt 1024 (length text) then Err TooLong else Ok pieces

-- a format of at most 1,024 bytes
abbrev pub format_by : List ℕ → Result (List Piece) WordKind
format_by text = unless_long text (format_in text)

-- what an option and its value say, or what is wrong with the value
abbrev pub value_of : QueryOption → List ℕ → Result QueryEntry WordKind
value_of option.User text = given (λ name. Whose (User name)) (good (name_in text))
value_of option.Jobs text = given Jobs (good (targets_by text))
value_of option.Partition text = given Partition (good (name_in text))
value_of option.States text = given States (good (states_by text))
value_of option.Format text = given Format (format_by text)

-- what an option without a value says
abbrev pub flag_entry : QueryFlag → QueryEntry
flag_entry NoHeader = NoTitles
flag_entry Start = Starts
flag_entry Me = Whose Asker

-- what a part of a command says, or what is wrong with it; all but options with good values is
abbrev pub entry_of : Part QueryFlag QueryOption → Result QueryEntry BadWord
entry_of (flag number own) = Ok (flag_entry own)
entry_of (valued number wanted place text) = at_word place (value_of wanted text)
entry_of (plain number text) = bad number StrayWord
entry_of (off number kind) = bad number kind
entry_of (lacking number wanted) = bad (number + 1) MissingValue

-- an entry takes the place of an earlier one of its kind
abbrev pub with_entry : JobQuery → QueryEntry → JobQuery
with_entry query NoTitles = record query { titles = false }
with_entry query Starts = record query { starts = true }
with_entry query (Whose who) = record query { who = who }
with_entry query (Jobs targets) = record query { jobs = Some targets }
with_entry query (Partition name) = record query { partition = Some name }
with_entry query (States states) = record query { states = Some states }
with_entry query (Format pieces) = record query { format = Some pieces }

-- all jobs that haven't ended, with titles, in the usual format
abbrev pub nothing_said : JobQuery
nothing_said = record {
  who = Anyone;
  jobs = None;
  partition = None;
  states = None;
  titles = true;
  starts = false;
  format = None;
}

-- what parts of a command say, on top of what was said before
abbrev pub said_by : JobQuery → List (Part QueryFlag QueryOption) → Result JobQuery BadWord
said_by query [] = Ok query
said_by query (part ∷ parts) = entry_of part >>= λ entry. said_by (with_entry query entry) parts

-- what the words behind a command's name say, by a table of its options
unfoldable pub query_words : Table QueryFlag QueryOption → List (List ℕ) → Result JobQuery BadWord
query_words table words = said_by nothing_said (parts_left table words (record { place = 1; ended = false }))

-- the options of squeue, of sinfo and of sprio, as they stand in their tables
unfoldable pub squeue_options : Table QueryFlag QueryOption
squeue_options = map (λ row. (row.0.now, row.1, row.2)) SQUEUE_OPTIONS

unfoldable pub sinfo_options : Table QueryFlag QueryOption
sinfo_options = map (λ row. (row.0.now, row.1, row.2)) SINFO_OPTIONS

unfoldable pub sprio_options : Table QueryFlag QueryOption
sprio_options = map (λ row. (row.0.now, row.1, row.2)) SPRIO_OPTIONS

unfoldable pub squeue_by : List (List ℕ) → Result Query BadWord
squeue_by words = given Squeue (query_words squeue_options words)

unfoldable pub sinfo_by : List (List ℕ) → Result Query BadWord
sinfo_by words = given (λ said. Sinfo said.partition said.titles) (query_words sinfo_options words)

unfoldable pub sprio_by : List (List ℕ) → Result Query BadWord
sprio_by words = given (λ said. Sprio said.who said.jobs said.titles) (query_words sprio_options words)
