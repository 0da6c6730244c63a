-- What slurmd tells of its end.
use Rattle.std.specs.Prelude.{◌≡◌, ◌⊎◌, ℕ, List, ◌++◌, codes, decimal}
use Rattle.std.specs.Io.KnownBytes.{Appends}
use Rattle.slurm_io.specs.Bytes.{AppendsFront, Tells}
use Rattle.slurm_io.specs.Faults.{CountsOne}
use Rattle.slurm_client.specs.Calling.{Sinks, ErrorsStay, OutputStays}
use Rattle.slurmd_link.specs.declared.running.WordsFault.{WordsFault}
use Rattle.slurmd_link.specs.declared.running.WordsFault.TheVariants as fault
use Rattle.slurmd_link.specs.declared.ending.SlurmdEnd.{SlurmdEnd}
use Rattle.slurmd_link.specs.declared.ending.SlurmdEnd.TheVariants as end
use Rattle.slurmd_link.specs.declared.link.LinkHow.{LinkHow}
use Rattle.slurmd_link.specs.declared.link.LinkHow.TheVariants as how

-- the line of the output once all turns were made
abbrev pub turns_line : ℕ → List ℕ
turns_line turns = codes "slurmd: " ++ decimal turns ++ codes " turns\n"

-- a line that names a cause
abbrev pub cause_line : List ℕ → List ℕ
cause_line cause = codes "slurmd: error: " ++ cause ++ codes "\n"

abbrev pub place_line : ℕ → List ℕ
place_line place = codes "slurmd: error: block at byte " ++ decimal place ++ codes "\n"

-- What became of the output and the errors, and the status: the errors took so much of a text as their writes let it.
pub record IsTelling (text : List ℕ) (due : ℕ) (old new : Sinks) (status : ℕ) : Type 0 where
  pub status_is : status ≡ due
  pub output : OutputStays old new
  pub errors : Tells old.errors new.errors old.errors_faults new.errors_faults text

-- the line of the turns was written, and nothing else
pub record IsToldDone (turns : ℕ) (old new : Sinks) (status : ℕ) : Type 0 where
  pub status_is : status ≡ 0
  pub output : Appends old.output new.output (turns_line turns)
  pub faults : new.output_faults ≡ old.output_faults
  pub errors : ErrorsStay old new

-- a write of that line failed
pub record IsToldInPart (turns : ℕ) (old new : Sinks) (status : ℕ) : Type 0 where
  pub status_is : status ≡ 6
  pub output : AppendsFront old.output new.output (turns_line turns)
  pub faults : CountsOne old.output_faults new.output_faults
  pub errors : Tells old.errors new.errors old.errors_faults new.errors_faults (cause_line (codes "write"))

-- what is told of a run over a link that ended so behind so many turns
abbrev pub IsLinkTold : LinkHow → ℕ → Sinks → Sinks → ℕ → Type 0
IsLinkTold how.Done made old new status = IsToldDone made old new status ⊎ IsToldInPart made old new status
IsLinkTold (how.Refused text) made old new status = IsTelling text 1 old new status
IsLinkTold (how.BadReply place) made old new status = IsTelling (place_line place) 7 old new status
IsLinkTold how.ReadFault made old new status = IsTelling (cause_line (codes "read")) 5 old new status
IsLinkTold how.WriteFault made old new status = IsTelling (cause_line (codes "write")) 6 old new status
IsLinkTold how.Memory made old new status = IsTelling (cause_line (codes "memory")) 8 old new status

-- what is told of each end
abbrev pub IsTold : SlurmdEnd → Sinks → Sinks → ℕ → Type 0
IsTold end.Usage old new status = IsTelling (cause_line (codes "usage")) 2 old new status
IsTold end.DoorFault old new status = IsTelling (cause_line (codes "door")) 10 old new status
IsTold end.Memory old new status = IsTelling (cause_line (codes "memory")) 8 old new status
IsTold (end.Linked linked) old new status = IsLinkTold linked.how linked.made old new status

-- the status and the line where there are no words
abbrev pub status_without : WordsFault → ℕ
status_without fault.NotText = 2
status_without fault.Memory = 8

abbrev pub line_without : WordsFault → List ℕ
line_without fault.NotText = cause_line (codes "usage")
line_without fault.Memory = cause_line (codes "memory")
