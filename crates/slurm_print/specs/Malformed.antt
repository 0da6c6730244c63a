-- What is told of blocks that ask nothing.
use Rattle.std.specs.Prelude.{ℕ, List, ◌++◌, codes, decimal}
use Rattle.text_values.specs.ConfRefusal.{kind_text as conf_kind_text}
use Rattle.text_values.specs.declared.conf_refusal.ConfKind.{ConfKind}
use Rattle.text_values.specs.WordRefusal.{kind_text}
use Rattle.text_values.specs.declared.word_refusal.WordKind.{WordKind}
use Rattle.text_values.specs.declared.word_refusal.WordKind.TheVariants.{UnknownCommand}
use Rattle.command_words.specs.Command.{name_of}
use Rattle.command_words.specs.declared.command.Command.{Command}
use Rattle.command_words.specs.declared.fault.WordFault.{WordFault}
use Rattle.command_words.specs.declared.fault.WordFault.TheVariants.{Word, Line, Conf}

-- who tells what is wrong: no command does where there is no such command
abbrev pub teller : Command → WordKind → List ℕ
teller command UnknownCommand = codes "slurm"
teller command kind = name_of command

-- `COMMAND: error: word NUMBER: KIND`, or the same of a line
abbrev pub fault_line : Command → List ℕ → ℕ → WordKind → List ℕ
fault_line command place number kind =
    teller command kind ++ codes ": error:" ++ place ++ decimal number ++ codes ": " ++ kind_text kind ++ codes "\n"

-- `COMMAND: error: conf line NUMBER: KIND`
abbrev pub conf_fault_line : Command → ℕ → ConfKind → List ℕ
conf_fault_line command line kind =
    name_of command ++ codes ": error: conf line " ++ decimal line ++ codes ": " ++ conf_kind_text kind ++ codes "\n"

abbrev pub malformed_text : Command → WordFault → List ℕ
malformed_text command (Word word kind) = fault_line command (codes " word ") word kind
malformed_text command (Line line kind) = fault_line command (codes " line ") line kind
malformed_text command (Conf line kind) = conf_fault_line command line kind

abbrev pub bad_words_text : ℕ → List ℕ
bad_words_text place = codes "slurm: error: byte " ++ decimal place ++ codes ": BadWords\n"

abbrev pub bad_header_text : List ℕ
bad_header_text = codes "slurm: error: BadHeader\n"

-- the command's name itself is bad
abbrev pub unknown_command_text : List ℕ
unknown_command_text = codes "slurm: error: word 1: UnknownCommand\n"
