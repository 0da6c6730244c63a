-- What the words of a command want.
use Rattle.std.specs.Prelude.{ℕ, if◌then◌else◌, List, Option, Some, None, Result, Err}
use Rattle.operands.specs.BadWord.{bad, given}
use Rattle.operands.specs.Operands.{closed_at}
use Rattle.operands.specs.declared.bad_word.BadWord.{BadWord}
use Rattle.text_values.specs.declared.word_refusal.WordKind.TheVariants.{StrayWord}
use Rattle.scontrol_words.specs.Scontrol.{scontrol_by}
use Rattle.request_data.specs.declared.request.Request.{Request}
use Rattle.request_data.specs.declared.request.Request.TheVariants.{Cancel, Report, Pass, Show}
use Rattle.command_words.specs.Cancel.{scancel_by}
use Rattle.command_words.specs.Queries.{squeue_by, sinfo_by, sprio_by}
use Rattle.command_words.specs.Reconfigure.{by_words, is_reconfigure, reconfigure_by}
use Rattle.command_words.specs.Report.{report_by}
use Rattle.command_words.specs.Sbatch.{sbatch_by}
use Rattle.command_words.specs.declared.command.Command.{Command}
use Rattle.command_words.specs.declared.command.Command.TheVariants as command
use Rattle.command_words.specs.declared.fault.WordFault.{WordFault}
use Rattle.command_words.specs.declared.fault.WordFault.TheVariants.{Word}

-- The request of a command that has no attachment, or its first bad word. The words begin with the command's name.
-- `pass` stands alone.
unfoldable pub alone_by : Command → ℕ → List (List ℕ) → Result Request BadWord
alone_by command.Sbatch now words = bad 1 StrayWord
alone_by command.Squeue now words = given Show (squeue_by words)
alone_by command.Scancel now words = given Cancel (scancel_by words)
alone_by command.Scontrol now words = scontrol_by now words
alone_by command.Sinfo now words = given Show (sinfo_by words)
alone_by command.Sprio now words = given Show (sprio_by words)
alone_by command.Report now words = given Report (report_by words)
alone_by command.Pass now words = closed_at words 1 Pass

-- An attachment is off where none belongs, at the command's name, and so before all that may be wrong with the words.
abbrev pub stray : Result Request WordFault
stray = Err (Word 1 StrayWord)

abbrev pub without : Option (List ℕ) → Result Request BadWord → Result Request WordFault
without None asked = by_words asked
without (Some text) asked = stray

-- of scontrol, one belongs beside `reconfigure` alone
abbrev pub scontrol_with : ℕ → List (List ℕ) → Option (List ℕ) → Result Request WordFault
scontrol_with now words None = by_words (alone_by command.Scontrol now words)
scontrol_with now words (Some text) = if is_reconfigure words then reconfigure_by words text else stray

-- what the words of a command and its attachment want at the moment `now`, or the first bad place
unfoldable pub wanted_by : Command → ℕ → List (List ℕ) → Option (List ℕ) → Result Request WordFault
wanted_by command.Sbatch now words attachment = sbatch_by now words attachment
wanted_by command.Scontrol now words attachment = scontrol_with now words attachment
wanted_by command now words attachment = without attachment (alone_by command now words)
