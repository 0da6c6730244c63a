-- What a call on one side of a link leaves as it was: the other side.
use Rattle.std.specs.Prelude.{ℕ, List, Option, None}

-- the bytes and the count of faults of a link's other side
pub record Kept : Type 0 where
  pub bytes : Option (List ℕ)
  pub faults : ℕ

-- of what has no other side
abbrev pub nothing_beside : Kept
nothing_beside = record { bytes = None; faults = 0 }
