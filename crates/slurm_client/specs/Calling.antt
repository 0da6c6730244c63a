-- What becomes of a call of a server: what was sent, what was read, and what was written of the reply.
use Rattle.std.specs.Prelude.{◌≡◌, ◌⊎◌, ℕ, List, ◌++◌, Option, Some}
use Rattle.std.specs.Io.KnownBytes.{Appends, Consumes, IsAtEnd}
use Rattle.slurm_io.specs.Bytes.{AppendsFront, Tells}
use Rattle.slurm_io.specs.Faults.{CountsOne, CountsNone}
use Rattle.slurm_io.specs.Wire.{Wire}
use Rattle.block_frame.specs.declared.block.Block.{Block}
use Rattle.block_frame.specs.Replies.{IsReply, BeginsWithReply}
use Rattle.slurm_client.specs.declared.called.Called.{Called}
use Rattle.slurm_client.specs.declared.called.Called.TheVariants.{Replied, ReadFault, WriteFault, BadReply, Memory}
use Rattle.slurm_client.specs.Reading.{ReadsWithin}
use Rattle.slurm_client.specs.Requests.{IsSent, IsCutShort}

-- the status that a command ends with
abbrev pub status_of : Called → ℕ
status_of (Replied status) = status
status_of ReadFault = 5
status_of WriteFault = 6
status_of BadReply = 7
status_of Memory = 8

-- what the output and the errors took, where they tell it, and how many of their writes failed
pub record Sinks : Type 0 where
  pub output : Option (List ℕ)
  pub output_faults : ℕ
  pub errors : Option (List ℕ)
  pub errors_faults : ℕ

abbrev pub sinks : Option (List ℕ) → ℕ → Option (List ℕ) → ℕ → Sinks
sinks output output_faults errors errors_faults =
    record { output = output; output_faults = output_faults; errors = errors; errors_faults = errors_faults }

-- the output, or the errors, stayed as they were
abbrev pub OutputStays : Sinks → Sinks → Type 0
OutputStays old new = (new.output ≡ old.output) × (new.output_faults ≡ old.output_faults)

abbrev pub ErrorsStay : Sinks → Sinks → Type 0
ErrorsStay old new = (new.errors ≡ old.errors) × (new.errors_faults ≡ old.errors_faults)

-- the output took the text of a reply of status 0, and the errors that of status 1, as far as their writes went
pub record IsWritten (status : ℕ) (text : List ℕ) (old new : Sinks) : Type 0 where
  pub output : status ≡ 0
      → Appends old.output new.output text × (new.output_faults ≡ old.output_faults) × ErrorsStay old new
  pub errors : status ≡ 1
      → Tells old.errors new.errors old.errors_faults new.errors_faults text × OutputStays old new

-- a write failed, and the output took less than all of a text
pub record IsWrittenInPart (text : List ℕ) (old new : Sinks) : Type 0 where
  pub output : AppendsFront old.output new.output text
  pub faults : CountsOne old.output_faults new.output_faults
  pub errors : ErrorsStay old new

-- What was made of a frame that was read.
abbrev pub IsShown : List ℕ → Sinks → Sinks → Called → Type 0
IsShown frame old new (Replied status) =
    (place : ℕ) × (text : List ℕ) × IsReply frame status place text × IsWritten status text old new
IsShown frame old new WriteFault =
    (place : ℕ) × (text : List ℕ) × IsReply frame 0 place text × IsWrittenInPart text old new
IsShown frame old new BadReply = ((status place : ℕ) (text : List ℕ) → ¬ IsReply frame status place text) × (new ≡ old)
IsShown frame old new _ = ⊥

-- a reply frame was read, and no byte behind it
pub record Received (old new : Wire) (status : ℕ) : Type 0 where
  pub read : List ℕ
  pub place : ℕ
  pub text : List ℕ
  pub consumed : Consumes old.left new.left read
  pub is_reply : IsReply read status place text
  pub reads : new.reads ≡ old.reads

-- a text begins with no reply frame
abbrev pub HasNoReply : List ℕ → Type 0
HasNoReply bytes = (status place : ℕ) (text : List ℕ) → ¬ BeginsWithReply bytes status place text

-- no reply frame begins so, or the input ended before one was whole
abbrev pub IsOff : List ℕ → Option (List ℕ) → Type 0
IsOff read left = ((more : List ℕ) → HasNoReply (read ++ more)) ⊎ (HasNoReply read × IsAtEnd left)

-- What became of the call that sends a block.
abbrev pub IsCalled : Block → Wire → Wire → Sinks → Sinks → Called → Type 0
IsCalled block old new told told' (Replied status) =
    IsSent block old new × ((reply : Received old new status) × IsWritten status reply.text told told')
IsCalled block old new told told' ReadFault =
    IsSent block old new × CountsOne old.reads new.reads × (told' ≡ told)
    × ((read : List ℕ) × ReadsWithin old new read × HasNoReply read)
IsCalled block old new told told' WriteFault =
    (IsCutShort block old new × (told' ≡ told))
    ⊎ (IsSent block old new × ((reply : Received old new 0) × IsWrittenInPart reply.text told told'))
IsCalled block old new told told' BadReply =
    IsSent block old new × (new.reads ≡ old.reads) × (told' ≡ told)
    × ((read : List ℕ) × ReadsWithin old new read × IsOff read new.left)
IsCalled block old new told told' Memory =
    (told' ≡ told)
    × ((new ≡ old) ⊎ (IsSent block old new × (new.reads ≡ old.reads) × ((read : List ℕ) × ReadsWithin old new read)))

-- no count of the link or of the output rose
pub record IsFaultless (old new : Wire) (told told' : Sinks) : Type 0 where
  pub reads : CountsNone old.reads new.reads
  pub writes : CountsNone old.writes new.writes
  pub output : CountsNone told.output_faults told'.output_faults

-- a call was answered by a reply of this status and text, or memory was wanting
abbrev pub IsAnswered : ℕ → List ℕ → Sinks → Sinks → Called → Type 0
IsAnswered status text told told' called =
    ((called ≡ Replied status) × IsWritten status text told told') ⊎ (called ≡ Memory)

-- Where the link tells its bytes and they begin with a reply frame, that reply is the answer, unless a count rises or
-- memory is wanting.
abbrev pub Completes : Wire → Wire → Sinks → Sinks → Called → Type 0
Completes old new told told' called =
    (left text : List ℕ) (status place : ℕ) → old.left ≡ Some left → BeginsWithReply left status place text
    → IsFaultless old new told told' → IsAnswered status text told told' called
