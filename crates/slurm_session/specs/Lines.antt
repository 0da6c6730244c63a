-- How a run ends: its status, and the line that is written to errors.
use Rattle.std.specs.Prelude.{ℕ, Bool, if◌then◌else◌, List, [], ◌++◌, codes}
use Rattle.cluster_opening.specs.BadFiles.{bad_status, bad_text}
use Rattle.cluster_opening.specs.declared.refusal.BadFile.{BadFile as OneBadFile}
use Rattle.cluster_opening.specs.declared.refusal.BadFile.TheVariants as bad_file
use Rattle.session_talk.specs.declared.session.How.{How}
use Rattle.session_talk.specs.declared.session.How.TheVariants as how
use Rattle.slurm_session.specs.declared.ending.RunEnd.{RunEnd}
use Rattle.slurm_session.specs.declared.ending.RunEnd.TheVariants.{Usage, NoFile, BadFile, LongText, Memory, Talked}

-- the status of a session: 1 where something of it was refused or wrong
abbrev pub talk_status : How → Bool → ℕ
talk_status how.Closed wrong = if wrong then 1 else 0
talk_status how.Quit wrong = if wrong then 1 else 0
talk_status how.TooLong wrong = if wrong then 1 else 0
talk_status how.ReadFault wrong = 5
talk_status how.WriteFault wrong = 6
talk_status how.Memory wrong = 8
talk_status how.Spent wrong = 9

-- the status of a run
abbrev pub status_of : RunEnd → ℕ
status_of Usage = 2
status_of (BadFile bad) = bad_status bad
status_of NoFile = 5
status_of Memory = 8
status_of LongText = 9
status_of (Talked ended) = talk_status ended.how ended.wrong

abbrev pub usage_line : List ℕ
usage_line = codes "usage: slurm_session -f CONF -a ASSOC [--state=STATE] [FILE]\n"

-- a line that names a cause
abbrev pub cause_line : List ℕ → List ℕ
cause_line cause = codes "slurm_session: error: " ++ cause ++ codes "\n"

-- what a bad file's line says behind the rest: why a line of a saved state is bad, which is told here alone
abbrev pub kind_behind : OneBadFile → List ℕ
kind_behind (bad_file.State line) = codes ": BadState"
kind_behind bad = []

-- a line that tells which line of a file is bad, and why
abbrev pub file_line : OneBadFile → List ℕ
file_line bad = codes "slurm_session: error: " ++ bad_text bad ++ kind_behind bad ++ codes "\n"

-- the line of a session; there is none where its lines were worked to the end
abbrev pub talk_line : How → List ℕ
talk_line how.Closed = []
talk_line how.Quit = []
talk_line how.TooLong = []
talk_line how.ReadFault = cause_line (codes "read")
talk_line how.WriteFault = cause_line (codes "write")
talk_line how.Memory = cause_line (codes "memory")
talk_line how.Spent = cause_line (codes "spent")

-- the line of a run
abbrev pub line_of : RunEnd → List ℕ
line_of Usage = usage_line
line_of (BadFile bad) = file_line bad
line_of NoFile = cause_line (codes "read")
line_of LongText = cause_line (codes "spent")
line_of Memory = cause_line (codes "memory")
line_of (Talked ended) = talk_line ended.how
