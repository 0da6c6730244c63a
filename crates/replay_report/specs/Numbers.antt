-- Numbers that stop at the greatest of 64 bits; a mean, and the value at a rank.
use Rattle.std.specs.Prelude.{◌≡◌, ℕ, ◌+◌, ◌-◌, ◌*◌, ◌/◌, ◌^◌, ◌==◌, min, if◌then◌else◌, List, [], length, sum, slice_get, Option, Some, MatchOption, IsPermutation}
use Rattle.std.specs.List.Sorted.{IsSorted}
use Rattle.std.specs.Ordering.{nat_cmp}
use Rattle.replay_report.specs.declared.spreads.Spread.{Spread}

-- a number, or the greatest of 64 bits where it is above that
abbrev pub stopped : ℕ → ℕ
stopped number = min number (2 ^ 64 - 1)

-- a part of a whole in thousandths, rounded down
abbrev pub thousandths : ℕ → ℕ → ℕ
thousandths part whole = if whole == 0 then 0 else stopped (part * 1000) / whole

-- the mean, rounded down
abbrev pub mean_of : List ℕ → ℕ
mean_of numbers = stopped (sum numbers) / length numbers

-- the rank of a percentile among so many numbers, counted from 1: so many percent of them, rounded up
abbrev pub rank_of : ℕ → ℕ → ℕ
rank_of percent count = (percent * count + 99) / 100

-- a number is a percentile of others where it has that rank among them, the least first
abbrev pub IsPercentile : ℕ → List ℕ → ℕ → Type 0
IsPercentile percent numbers number = (ordered : List ℕ)
    × IsPermutation numbers ordered × IsSorted nat_cmp ordered
    × (slice_get ordered (rank_of percent (length ordered) - 1) ≡ Some number)

-- how numbers are spread
pub record IsSpread (numbers : List ℕ) (spread : Spread) : Type 0 where
  pub mean : spread.mean ≡ mean_of numbers
  pub median : IsPercentile 50 numbers spread.median
  pub high : IsPercentile 95 numbers spread.high

-- numbers are spread so, where there are any
abbrev pub IsSpreadOf : List ℕ → Option Spread → Type 0
IsSpreadOf numbers spread = MatchOption spread (numbers ≡ []) (IsSpread numbers)
