-- What is said of the bytes that a sink has taken, beside std's words on known bytes.
use Rattle.std.specs.Prelude.{ℕ, ◌<◌, List, length, take, Option}
use Rattle.std.specs.Io.KnownBytes.{Appends}
use Rattle.slurm_io.specs.Faults.{CountsNone}

-- known bytes grew by the front of a piece, and by less than all of it
abbrev pub AppendsFront : Option (List ℕ) → Option (List ℕ) → List ℕ → Type 0
AppendsFront old new piece = (n : ℕ) × (n < length piece) × Appends old new (take n piece)

-- A sink took a beginning of a text, whatever fails, and all of it where no write fails: what was taken, and how many
-- writes failed, before and after.
pub record Tells (taken taken' : Option (List ℕ)) (faults faults' : ℕ) (text : List ℕ) : Type 0 where
  pub begun : (n : ℕ) × Appends taken taken' (take n text)
  pub whole : CountsNone faults faults' → Appends taken taken' text
