-- What reading brings to the blocks of a link.
use Rattle.std.specs.Prelude.{◌≡◌, ℕ, ◌<◌, List, ◌++◌, length}
use Rattle.std.specs.Io.KnownBytes.{Consumes, Keeps, IsAtEnd}
use Rattle.slurm_io.specs.Faults.{CountsOne}
use Rattle.slurm_io.specs.Wire.{Wire}
use Rattle.block_frame.specs.declared.block.Block.{Block}
use Rattle.block_frame.specs.Grammar.{IsBlock, IsPartial, IsBad, spelled}
use Rattle.block_frame.specs.State.{BlocksState, place_after}
use Rattle.ctl_session.specs.declared.reading.Brought.{Brought}
use Rattle.ctl_session.specs.declared.reading.Brought.TheVariants as brought
use Rattle.ctl_session.specs.declared.reading.Found.{Found}
use Rattle.ctl_session.specs.declared.reading.Found.TheVariants as found

-- nothing was written
abbrev pub WritesStay : Wire → Wire → Type 0
WritesStay old new = (new.taken ≡ old.taken) × (new.writes ≡ old.writes)

-- nothing was read
abbrev pub ReadsStay : Wire → Wire → Type 0
ReadsStay old new = (new.left ≡ old.left) × (new.reads ≡ old.reads)

-- What was read follows what was pending, and begins with a block; the bytes behind it are pending.
pub record TakesBlock (old new : Wire) (blocks blocks' : BlocksState) (block : Block) : Type 0 where
  pub read : List ℕ
  pub consumed : Consumes old.left new.left read
  pub is_block : IsBlock blocks.form block
  pub cut : blocks.pending ++ read ≡ spelled blocks.form block ++ blocks'.pending
  pub form : blocks'.form ≡ blocks.form
  pub place : blocks'.place ≡ place_after blocks.place (length (spelled blocks.form block))

-- What was read follows what was pending, and all of it is pending.
pub record TakesNone (old new : Wire) (blocks blocks' : BlocksState) : Type 0 where
  pub read : List ℕ
  pub consumed : Consumes old.left new.left read
  pub pending : blocks'.pending ≡ blocks.pending ++ read
  pub form : blocks'.form ≡ blocks.form
  pub place : blocks'.place ≡ blocks.place

-- One read brings some bytes that are pending then, or it is the end of the input, or it failed; or memory was wanting.
abbrev pub Brings : Wire → Wire → BlocksState → BlocksState → Brought → Type 0
Brings old new blocks blocks' brought.Some =
    (takes : TakesNone old new blocks blocks') × (0 < length takes.read) × (new.reads ≡ old.reads)
Brings old new blocks blocks' brought.End =
    Keeps old.left new.left × IsAtEnd new.left × (blocks' ≡ blocks) × (new.reads ≡ old.reads)
Brings old new blocks blocks' brought.ReadFault =
    Keeps old.left new.left × (blocks' ≡ blocks) × CountsOne old.reads new.reads
Brings old new blocks blocks' brought.Memory =
    ((read : List ℕ) × Consumes old.left new.left read) × (blocks' ≡ blocks) × (new.reads ≡ old.reads)

-- A whole block is taken off the front of what was read, or there is none.
abbrev pub IsFound : Wire → Wire → BlocksState → BlocksState → Found → Type 0
IsFound old new blocks blocks' (found.Whole block) = TakesBlock old new blocks blocks' block × (new.reads ≡ old.reads)
IsFound old new blocks blocks' found.End =
    TakesNone old new blocks blocks' × (new.reads ≡ old.reads) × IsAtEnd new.left
    × IsPartial blocks'.form blocks'.pending
IsFound old new blocks blocks' (found.Bad place) =
    TakesNone old new blocks blocks' × (new.reads ≡ old.reads)
    × IsBad blocks'.form blocks'.pending × (place ≡ blocks'.place)
IsFound old new blocks blocks' found.ReadFault =
    TakesNone old new blocks blocks' × CountsOne old.reads new.reads × IsPartial blocks'.form blocks'.pending
IsFound old new blocks blocks' found.Memory =
    ((read : List ℕ) × Consumes old.left new.left read) × (new.reads ≡ old.reads)
