-- The period that a word names.
use Rattle.std.specs.Prelude.{ℕ, ◌+◌, ◌==◌, Bool, if◌then◌else◌, nat_le, List, take, drop, position, Option, Some, None}
use Rattle.std.specs.Str.{byte}
use Rattle.small_texts.specs.Digits.{number_within}
use Rattle.small_texts.specs.Options.{◌>>=◌}
use Rattle.plain_data.specs.declared.period.Period.{Period}

abbrev pub is_comma : ℕ → Bool
is_comma b = b == byte ","

-- a second, in one to twelve digits, of which the last is 250,000,000,000
abbrev pub second_in : List ℕ → Option ℕ
second_in text = number_within 12 250000000000 text

-- it doesn't end before it begins
abbrev pub period_between : ℕ → ℕ → Option Period
period_between from until = if nat_le from until then Some (record { from = from; until = until }) else None

-- the period that `FROM,UNTIL` names
unfoldable pub period_named : List ℕ → Option Period
period_named text = do
  at ← position is_comma text
  from ← second_in (take at text)
  until ← second_in (drop (at + 1) text)
  period_between from until
