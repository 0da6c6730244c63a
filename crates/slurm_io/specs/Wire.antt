-- A link as contracts see it.
use Rattle.std.specs.Prelude.{ℕ, List, Option}

-- What is left to read and what was taken, where these are told, and how many reads and writes failed.
pub record Wire : Type 0 where
  pub left : Option (List ℕ)
  pub taken : Option (List ℕ)
  pub reads : ℕ
  pub writes : ℕ
