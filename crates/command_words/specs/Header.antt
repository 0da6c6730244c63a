-- What a header and its attachment ask.
use Rattle.std.specs.Prelude.{ℕ, List, drop, slice_get, Option, Some, None, Result, Ok, Err}
use Rattle.request_data.specs.declared.request.Request.{Request}
use Rattle.small_texts.specs.Options.{◌>>=◌}
use Rattle.line_words.specs.Words.{first_bad, words_in}
use Rattle.command_words.specs.Command.{command_named}
use Rattle.operands.specs.Names.{u64_by}
use Rattle.text_values.specs.Names.{name_in}
use Rattle.command_words.specs.Wanted.{wanted_by}
use Rattle.command_words.specs.declared.command.Command.{Command}
use Rattle.command_words.specs.declared.fault.WordFault.{WordFault}
use Rattle.command_words.specs.declared.header.Head.{Head}
use Rattle.command_words.specs.declared.header.Meaning.{Meaning}
use Rattle.command_words.specs.declared.header.Meaning.TheVariants.{Asks, Malformed, UnknownCommand, BadWords, BadHeader}

-- the moment and the user that the words begin with, where a command follows
unfoldable pub head_in : List (List ℕ) → Option Head
head_in words = do
  moment ← slice_get words 0
  user ← slice_get words 1
  command ← slice_get words 2
  at ← u64_by moment
  name ← name_in user
  Some (record { moment = at; user = name })

abbrev pub command_in : List (List ℕ) → Option Command
command_in words = slice_get words 0 >>= command_named

-- what a user means who wants this at a moment
abbrev pub meaning_for : Head → Command → Result Request WordFault → Meaning
meaning_for head command (Ok request) =
    Asks (record { moment = head.moment; user = head.user; request = request })
meaning_for head command (Err fault) = Malformed command fault

-- a first word that names no command is bad, whatever stands behind it
abbrev pub asked_of : Option Command → Head → List (List ℕ) → Option (List ℕ) → Meaning
asked_of None head words attachment = UnknownCommand
asked_of (Some command) head words attachment =
    meaning_for head command (wanted_by command head.moment words attachment)

-- what a user asks by a command's words and an attachment
unfoldable pub asked_by : Head → List (List ℕ) → Option (List ℕ) → Meaning
asked_by head words attachment = asked_of (command_in words) head words attachment

abbrev pub headed : Option Head → List (List ℕ) → Option (List ℕ) → Meaning
headed None words attachment = BadHeader
headed (Some head) words attachment = asked_by head words attachment

-- what words and an attachment ask: a moment, a user, and a command's words
unfoldable pub meaning_by : List (List ℕ) → Option (List ℕ) → Meaning
meaning_by words attachment = headed (head_in words) (drop 2 words) attachment

abbrev pub unless_bad : Option ℕ → Meaning → Meaning
unless_bad None meaning = meaning
unless_bad (Some place) meaning = BadWords place

-- What a header and its attachment ask.
unfoldable pub meaning_in : List ℕ → Option (List ℕ) → Meaning
meaning_in header attachment = unless_bad (first_bad header) (meaning_by (words_in header) attachment)
