-- A reader of blocks, as contracts see it.
use Rattle.std.specs.Prelude.{◌≡◌, ℕ, ◌+◌, ◌-◌, ◌^◌, min, List, ◌++◌, length}
use Rattle.block_frame.specs.declared.block.Next.{Next}
use Rattle.block_frame.specs.declared.block.Next.TheVariants.{Whole, NotYet, Bad}
use Rattle.block_frame.specs.declared.form.Form.{Form}
use Rattle.block_frame.specs.Grammar.{IsBlock, IsPartial, IsBad, spelled}

-- the form of the blocks, how many bytes those took that were handed out, and the bytes that were fed and not handed
-- out
pub record BlocksState : Type 0 where
  pub form : Form
  pub place : ℕ
  pub pending : List ℕ

-- the place after so many bytes more; past the greatest number of 64 bits it stands still
abbrev pub place_after : ℕ → ℕ → ℕ
place_after place count = min (place + count) (2 ^ 64 - 1)

-- what the next block of a reader is, and what it leaves
abbrev pub IsNext : BlocksState → Next → BlocksState → Type 0
IsNext old (Whole block) new =
    IsBlock old.form block × (old.pending ≡ spelled old.form block ++ new.pending)
    × (new.form ≡ old.form) × (new.place ≡ place_after old.place (length (spelled old.form block)))
IsNext old NotYet new = IsPartial old.form old.pending × (new ≡ old)
IsNext old (Bad place) new = IsBad old.form old.pending × (place ≡ old.place) × (new ≡ old)
