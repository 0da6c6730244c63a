-- The lines of a session, one after the other: what is heard in each, and what stays behind it.
use Rattle.std.specs.Prelude.{ℕ, if◌then◌else◌, List, [], ◌∷◌, ◌++◌, fold, Option, Some, None, codes}
use Rattle.std.specs.Str.{bytes_eq, byte}
use Rattle.session_text.specs.Said.{said_in}
use Rattle.session_text.specs.declared.call.Call.{Call}
use Rattle.session_text.specs.declared.call.Script.TheVariants.{Given}
use Rattle.session_text.specs.declared.reader.Heard.{Heard}
use Rattle.session_text.specs.declared.reader.Heard.TheVariants as heard
use Rattle.session_text.specs.declared.reader.Open.{Open}
use Rattle.session_text.specs.declared.reader.Reader.{Reader}
use Rattle.session_text.specs.declared.said.Said.{Said}
use Rattle.session_text.specs.declared.said.Said.TheVariants.{Stays, Asks, Opens, Help, Quit, Wrong}

-- what is heard of what a line says
abbrev pub heard_of : Said → Heard
heard_of (Stays stays) = heard.Nothing
heard_of (Asks call stays) = heard.Asks call
heard_of (Opens call stays until) = heard.Nothing
heard_of Help = heard.Help
heard_of Quit = heard.Quit
heard_of (Wrong fault) = heard.Wrong fault

-- a call whose script begins here, and ends at a line that is this word
abbrev pub opened : Call → List ℕ → Open
opened call until = record { call = call; until = until; text = [] }

-- what stays behind it; what is wrong, a call for help and the end leave all as it was
abbrev pub behind : Reader → Said → Reader
behind reader (Stays stays) = record reader { stays = stays }
behind reader (Asks call stays) = record reader { stays = stays }
behind reader (Opens call stays until) = record { stays = stays; begun = Some (opened call until) }
behind reader said = reader

-- a line within a script, or the one that ends it
abbrev pub heard_within : Open → List ℕ → Heard
heard_within started line =
    if bytes_eq line started.until then heard.Asks (record started.call { script = Given started.text }) else heard.Nothing

abbrev pub still_open : Open → List ℕ → Option Open
still_open started line =
    if bytes_eq line started.until then None else Some (record started { text = started.text ++ line ++ byte "\n" ∷ [] })

-- what is heard in a line
unfoldable pub heard_in : Reader → List ℕ → Heard
heard_in reader line = by reader.begun where
  by : Option Open → Heard
  by None = heard_of (said_in line reader.stays)
  by (Some started) = heard_within started line

-- what stays behind it
unfoldable pub reader_after : Reader → List ℕ → Reader
reader_after reader line = by reader.begun where
  by : Option Open → Reader
  by None = behind reader (said_in line reader.stays)
  by (Some started) = record reader { begun = still_open started line }

-- what stays behind lines
abbrev pub reader_behind : Reader → List (List ℕ) → Reader
reader_behind reader lines = fold reader_after reader lines

-- before the first line: root asks, at the moment 0
abbrev pub first_reader : Reader
first_reader = record { stays = record { moment = 0; user = codes "root" }; begun = None }
