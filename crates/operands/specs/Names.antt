-- Words that are numbers.
use Rattle.std.specs.Prelude.{ℕ, List, Option}
use Rattle.small_texts.specs.Digits.{number_within}

-- 1 to 20 digits, up to 2 ^ 64 - 1
abbrev pub u64_by : List ℕ → Option ℕ
u64_by word = number_within 20 18_446_744_073_709_551_615 word
