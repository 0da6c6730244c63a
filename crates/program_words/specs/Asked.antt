-- What the program's words ask.
use Rattle.plain_data.specs.Files.{Named}
use Rattle.std.specs.Prelude.{ℕ, ◌==◌, Bool, not, ◌&&◌, ◌||◌, if◌then◌else◌, List, [], ◌∷◌, length, nat_le, codes, bytes_eq, Option, Some, None, is_some, is_none, option_map}
use Rattle.small_texts.specs.Digits.{number_within}
use Rattle.small_texts.specs.Options.{◌>>=◌}
use Rattle.line_words.specs.Words.{first_bad_word}
use Rattle.command_words.specs.Command.{command_named}
use Rattle.command_words.specs.declared.command.Command.{Command}
use Rattle.command_words.specs.declared.command.Command.TheVariants.{Report, Pass}
use Rattle.generator.specs.Generated.{number_of}
use Rattle.slurm_client.specs.Requests.{header_of}
use Rattle.plain_data.specs.declared.period.Period.{Period}
use Rattle.program_words.specs.declared.call.Call as call
use Rattle.program_words.specs.Periods.{period_named}
use Rattle.program_words.specs.Controller.{Said, said_in}
use Rattle.program_words.specs.Server.{positive, server_in}

-- What words ask: a script on the cluster of some files, with the sums of a period and the state saved behind it where
-- they say so; a server of that cluster at a port, with so many workers, and the state saved behind it or not; the script
-- that a number stands for, or a simulation of its jobs; the call of a server.
pub data Asked : Type 0 where
  Script : Named → Option Period → Bool → Asked
  Serve : Named → ℕ → ℕ → Bool → Asked
  Generate : ℕ → Asked
  Simulate : ℕ → Asked
  Call : call.Call → Asked

-- the first of three, alone
abbrev pub is_alone : Bool → Bool → Bool → Bool
is_alone one other third = one && not other && not third

-- just one of script, serve and generate is there
abbrev pub has_one_task : Said → Bool
has_one_task said =
    is_alone said.script said.serve (is_some said.generate) || is_alone said.serve said.script (is_some said.generate)
    || is_alone (is_some said.generate) said.script said.serve

-- both files are there with script and with serve, and neither with generate
abbrev pub has_its_files : Said → Bool
has_its_files said =
    if is_some said.generate then is_none said.conf && is_none said.assocs
    else is_some said.conf && is_some said.assocs

-- port and workers are there only with serve
abbrev pub has_its_numbers : Said → Bool
has_its_numbers said = said.serve || (is_none said.port && is_none said.workers)

-- run is there only with generate
abbrev pub has_its_run : Said → Bool
has_its_run said = not said.run || is_some said.generate

-- a saved state is read or written only with script or serve
abbrev pub has_its_state : Said → Bool
has_its_state said = is_none said.generate || (is_none said.state && not said.save)

-- sums are there only with script
abbrev pub has_its_sums : Said → Bool
has_its_sums said = said.script || is_none said.sacct

-- what may stand together
abbrev pub are_together : Said → Bool
are_together said =
    has_one_task said && has_its_files said && has_its_numbers said && has_its_run said && has_its_state said
    && has_its_sums said

-- the port, 1 to 65,535, and else 6817; the workers, 1 to 64, and else 4
abbrev pub port_in : Option (List ℕ) → Option ℕ
port_in None = Some 6817
port_in (Some text) = positive (number_within 10 65535 text)

abbrev pub workers_in : Option (List ℕ) → Option ℕ
workers_in None = Some 4
workers_in (Some text) = positive (number_within 10 64 text)

-- the period, where one is named
abbrev pub period_in : Option (List ℕ) → Option (Option Period)
period_in None = Some None
period_in (Some text) = option_map Some (period_named text)

abbrev pub files_of : Said → Option Named
files_of said = do
  conf ← said.conf
  assocs ← said.assocs
  Some (record { conf = conf; assocs = assocs; state = said.state })

abbrev pub script_of : Said → Option Asked
script_of said = do
  files ← files_of said
  sacct ← period_in said.sacct
  Some (Script files sacct said.save)

abbrev pub serve_of : Said → Option Asked
serve_of said = do
  files ← files_of said
  port ← port_in said.port
  workers ← workers_in said.workers
  Some (Serve files port workers said.save)

abbrev pub by_number : Bool → ℕ → Asked
by_number run number = if run then Simulate number else Generate number

abbrev pub generate_of : Said → Option Asked
generate_of said = do
  text ← said.generate
  number ← number_of text
  Some (by_number said.run number)

-- what is asked by what is there
abbrev pub task_of : Said → Option Asked
task_of said = if said.script then script_of said else (if said.serve then serve_of said else generate_of said)

unfoldable pub asked_by : Said → Option Asked
asked_by said = if are_together said then task_of said else None

-- what words behind slurmctld ask, it among them
abbrev pub controller_asked : List (List ℕ) → Option Asked
controller_asked words = do
  said ← said_in words
  asked_by said

-- the commands that call a server, by their names
abbrev pub calling : Option Command → Option Command
calling (Some Report) = None
calling (Some Pass) = None
calling command = command

-- the words of a request go through: each byte is a tab or from 0x20 to 0x7E, and the header has at most 8,192 bytes
abbrev pub go_through : List ℕ → List (List ℕ) → Bool
go_through user words = is_none (first_bad_word words) && nat_le (length (header_of user words)) 8192

abbrev pub call_by : Command → List ℕ → ℕ → List (List ℕ) → Option call.Call
call_by command user port words =
    if go_through user words then Some (record { command = command; user = user; port = port; words = words }) else None

-- the call that words ask behind a command's name: the first of them names the server, and the request has the others
-- behind that name
unfoldable pub call_in : List ℕ → List (List ℕ) → Option call.Call
call_in name [] = None
call_in name (server ∷ words) = do
  command ← calling (command_named name)
  address ← server_in server
  call_by command address.0 address.1 (name ∷ words)

abbrev pub call_asked : List ℕ → List (List ℕ) → Option Asked
call_asked name words = do
  asked ← call_in name words
  Some (Call asked)

-- what the words behind the program's name ask; None where they are off
unfoldable pub asked_in : List (List ℕ) → Option Asked
asked_in [] = None
asked_in (name ∷ words) =
    if bytes_eq name (codes "slurmctld") then controller_asked (name ∷ words) else call_asked name words
