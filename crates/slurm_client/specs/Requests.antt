-- The request that a client sends.
use Rattle.std.specs.Prelude.{◌≡◌, ◌≢◌, ℕ, ◌≤◌, List, ◌∷◌, ◌++◌, length, All, Option, IfSome}
use Rattle.std.specs.Str.{byte}
use Rattle.std.specs.Io.KnownBytes.{Appends}
use Rattle.line_words.specs.Words.{quoted_words}
use Rattle.slurm_io.specs.Bytes.{AppendsFront}
use Rattle.slurm_io.specs.Faults.{CountsOne}
use Rattle.slurm_io.specs.Wire.{Wire}
use Rattle.block_frame.specs.declared.block.Block.{Block}
use Rattle.block_frame.specs.declared.form.Form.TheVariants.{Framed}
use Rattle.block_frame.specs.Frames.{request_of}
use Rattle.block_frame.specs.Grammar.{IsBlock, spelled}
use Rattle.slurm_client.specs.declared.sending.TheConstants.{LONGEST_HEADER, LONGEST_SCRIPT}

-- the header of a request: the user, a blank, and the words as they are quoted
abbrev pub header_of : List ℕ → List (List ℕ) → List ℕ
header_of user words = user ++ byte " " ∷ quoted_words words

-- the request of a user, of words, and of a script where there is one
abbrev pub request : List ℕ → List (List ℕ) → Option (List ℕ) → Block
request user words script = request_of (header_of user words) script

-- a server takes a request so long
pub record FitsRequest (user : List ℕ) (words : List (List ℕ)) (script : Option (List ℕ)) : Type 0 where
  pub header_fits : length (header_of user words) ≤ LONGEST_HEADER
  pub script_fits : IfSome script (λ bytes. length bytes ≤ LONGEST_SCRIPT)

-- no LF is in a text
abbrev pub HasOneLine : List ℕ → Type 0
HasOneLine text = All (λ b. b ≢ byte "\n") text

-- nothing was read
abbrev pub ReadsStay : Wire → Wire → Type 0
ReadsStay old new = (new.left ≡ old.left) × (new.reads ≡ old.reads)

-- the frame of one good block was written whole, and no write failed
pub record IsSent (block : Block) (old new : Wire) : Type 0 where
  pub is_block : IsBlock Framed block
  pub sent : Appends old.taken new.taken (spelled Framed block)
  pub writes : new.writes ≡ old.writes

-- a write failed within that frame, and nothing was read
pub record IsCutShort (block : Block) (old new : Wire) : Type 0 where
  pub is_block : IsBlock Framed block
  pub sent : AppendsFront old.taken new.taken (spelled Framed block)
  pub writes : CountsOne old.writes new.writes
  pub reads : ReadsStay old new
