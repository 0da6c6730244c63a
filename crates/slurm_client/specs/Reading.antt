-- How one frame is read off a link.
use Rattle.std.specs.Prelude.{◌≡◌, ◌⊎◌, ℕ, ◌+◌, ◌<◌, ◌≤◌, List, ◌++◌, length, Vec, Result, Ok, Err}
use Rattle.std.specs.declared.alloc.Global.{Global}
use Rattle.std.specs.Io.KnownBytes.{Consumes, Keeps, IsAtEnd}
use Rattle.slurm_io.specs.Faults.{CountsOne}
use Rattle.slurm_io.specs.Wire.{Wire}
use Rattle.block_frame.specs.declared.framed.TheConstants.{LENGTH_SIZE}
use Rattle.block_frame.specs.declared.replies.TheConstants.{REPLY_HEAD}
use Rattle.block_frame.specs.Frames.{announced}
use Rattle.slurm_client.specs.declared.reading.Unread.{Unread}
use Rattle.slurm_client.specs.declared.reading.Unread.TheVariants.{Bad, ReadFault, Memory}

-- nothing was written
abbrev pub WritesStay : Wire → Wire → Type 0
WritesStay old new = (new.taken ≡ old.taken) × (new.writes ≡ old.writes)

-- what was read was put behind the bytes that were there
pub record Gains (old new : Wire) (bytes bytes' : List ℕ) : Type 0 where
  pub read : List ℕ
  pub consumed : Consumes old.left new.left read
  pub gained : bytes' ≡ bytes ++ read

-- One read brought some bytes, so many at the most; or it was the end of the input, or it failed; or memory was wanting
-- for what it brought.
abbrev pub Brings : Wire → Wire → List ℕ → List ℕ → ℕ → Result (Unit {0}) Unread → Type 0
Brings old new bytes bytes' most (Ok done) =
    (gains : Gains old new bytes bytes') × (0 < length gains.read) × (length gains.read ≤ most)
    × (new.reads ≡ old.reads)
Brings old new bytes bytes' most (Err Bad) =
    Keeps old.left new.left × IsAtEnd new.left × (bytes' ≡ bytes) × (new.reads ≡ old.reads)
Brings old new bytes bytes' most (Err ReadFault) =
    Keeps old.left new.left × (bytes' ≡ bytes) × CountsOne old.reads new.reads
Brings old new bytes bytes' most (Err Memory) =
    ((read : List ℕ) × Consumes old.left new.left read × (length read ≤ most)) × (new.reads ≡ old.reads)

-- So many bytes are there now, or fewer.
abbrev pub IsFilled : Wire → Wire → List ℕ → List ℕ → ℕ → Result (Unit {0}) Unread → Type 0
IsFilled old new bytes bytes' want (Ok done) =
    Gains old new bytes bytes' × (length bytes' ≡ want) × (new.reads ≡ old.reads)
IsFilled old new bytes bytes' want (Err Bad) =
    Gains old new bytes bytes' × (length bytes' < want) × (new.reads ≡ old.reads) × IsAtEnd new.left
IsFilled old new bytes bytes' want (Err ReadFault) =
    Gains old new bytes bytes' × (length bytes' < want) × CountsOne old.reads new.reads
IsFilled old new bytes bytes' want (Err Memory) =
    ((read : List ℕ) × Consumes old.left new.left read × (length bytes + length read ≤ want)) × (new.reads ≡ old.reads)

-- bytes were read, and none behind the end that their length says, nor behind a length below that of any reply
pub record ReadsWithin (old new : Wire) (read : List ℕ) : Type 0 where
  pub consumed : Consumes old.left new.left read
  pub within : length read ≤ LENGTH_SIZE + announced read
  pub at_once : announced read < REPLY_HEAD → length read ≤ LENGTH_SIZE

-- the end that their length says isn't there yet; of less than four bytes that is true
abbrev pub IsUnended : List ℕ → Type 0
IsUnended read = length read < LENGTH_SIZE + announced read

-- the four bytes of a length below that of any reply
abbrev pub IsTooShort : List ℕ → Type 0
IsTooShort read = (length read ≡ LENGTH_SIZE) × (announced read < REPLY_HEAD)

-- A frame was read that ends where its length says, or why there is none.
abbrev pub IsFrameRead : Wire → Wire → Result (Vec ℕ Global) Unread → Type 0
IsFrameRead old new (Ok frame) =
    Consumes old.left new.left frame.items × (length frame.items ≡ LENGTH_SIZE + announced frame.items)
    × (REPLY_HEAD ≤ announced frame.items) × (new.reads ≡ old.reads)
IsFrameRead old new (Err Bad) =
    ((read : List ℕ) × ReadsWithin old new read × (IsTooShort read ⊎ (IsUnended read × IsAtEnd new.left)))
    × (new.reads ≡ old.reads)
IsFrameRead old new (Err ReadFault) =
    ((read : List ℕ) × ReadsWithin old new read × IsUnended read) × CountsOne old.reads new.reads
IsFrameRead old new (Err Memory) = ((read : List ℕ) × ReadsWithin old new read) × (new.reads ≡ old.reads)
