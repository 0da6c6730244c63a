-- Numbers.
use Rattle.std.specs.Prelude.{ℕ, nat_le, if◌then◌else◌, List, Option, Some, None}
use Rattle.small_texts.specs.Digits.{number_within}
use Rattle.small_texts.specs.Options.{◌>>=◌}

-- a number of at most ten digits, from `least` to `most`
unfoldable pub number_in : ℕ → ℕ → List ℕ → Option ℕ
number_in least most text = do
  number ← number_within 10 most text
  if nat_le least number then Some number else None

-- a number that 32 bits hold, in at most ten digits
abbrev pub u32_in : List ℕ → Option ℕ
u32_in text = number_within 10 4_294_967_295 text
