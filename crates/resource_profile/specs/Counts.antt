-- A count of steps.
use Rattle.std.specs.Prelude.{◌≡◌, ◌≤◌, ℕ, ◌+◌, ◌-◌, ◌^◌, min, zero, suc}

-- the count after so many ticks, each of which adds one; it stands still at the end of its type
abbrev pub ticked : ℕ → ℕ → ℕ
ticked count zero = count
ticked count (suc times) = min (ticked count times + 1) (2 ^ 64 - 1)

-- after at most so many ticks
pub record IsTickedUpTo (most before after : ℕ) : Type 0 where
  pub times : ℕ
  pub few : times ≤ most
  pub is : after ≡ ticked before times
