-- The texts of time limits, and what they mean.
use Rattle.std.specs.Prelude.{ℕ, ◌+◌, ◌*◌, ◌/◌, ◌||◌, nat_le, ◌==◌, if◌then◌else◌, List, [], ◌∷◌, Option, None, Some, codes}
use Rattle.std.specs.Str.{str_eq_ignore_ascii_case, byte}
use Rattle.small_texts.specs.Digits.{number_within}
use Rattle.small_texts.specs.Fields.{fields}
use Rattle.small_texts.specs.Options.{◌>>=◌}
use Rattle.plain_data.specs.declared.limit.Limit.{Limit}
use Rattle.plain_data.specs.declared.limit.Limit.TheVariants.{Minutes, Unlimited}

-- the number that begins a time: one to nine digits
abbrev pub count_of : List ℕ → Option ℕ
count_of text = number_within 9 999_999_999 text

-- a number after it: one or two digits, up to the greatest that the place has
abbrev pub part_of : ℕ → List ℕ → Option ℕ
part_of greatest text = number_within 2 greatest text

-- `minutes`, `minutes:seconds` and `hours:minutes:seconds`, in seconds
unfoldable pub seconds_of_clock : List (List ℕ) → Option ℕ
seconds_of_clock (minutes ∷ []) = do
  m ← count_of minutes
  Some (60 * m)
seconds_of_clock (minutes ∷ seconds ∷ []) = do
  m ← count_of minutes
  s ← part_of 59 seconds
  Some (60 * m + s)
seconds_of_clock (hours ∷ minutes ∷ seconds ∷ []) = do
  h ← count_of hours
  m ← part_of 59 minutes
  s ← part_of 59 seconds
  Some (3600 * h + 60 * m + s)
seconds_of_clock _ = None

-- `hours`, `hours:minutes` and `hours:minutes:seconds` behind a number of days, in seconds
unfoldable pub seconds_of_day : List (List ℕ) → Option ℕ
seconds_of_day (hours ∷ []) = do
  h ← part_of 23 hours
  Some (3600 * h)
seconds_of_day (hours ∷ minutes ∷ []) = do
  h ← part_of 23 hours
  m ← part_of 59 minutes
  Some (3600 * h + 60 * m)
seconds_of_day (hours ∷ minutes ∷ seconds ∷ []) = do
  h ← part_of 23 hours
  m ← part_of 59 minutes
  s ← part_of 59 seconds
  Some (3600 * h + 60 * m + s)
seconds_of_day _ = None

-- the seconds of a time, which has days where it has a dash; colons part the rest
unfoldable pub seconds_of_parts : List (List ℕ) → Option ℕ
seconds_of_parts (time ∷ []) = seconds_of_clock (fields (byte ":") time)
seconds_of_parts (days ∷ time ∷ []) = do
  d ← count_of days
  s ← seconds_of_day (fields (byte ":") time)
  Some (86_400 * d + s)
seconds_of_parts _ = None

unfoldable pub seconds_of : List ℕ → Option ℕ
seconds_of text = seconds_of_parts (fields (byte "-") text)

-- no minutes are no limit, and there are at most 52,560,000 of them
unfoldable pub limit_of_minutes : ℕ → Option Limit
limit_of_minutes minutes =
    if minutes == 0 then Some Unlimited
    else (if nat_le minutes 52_560_000 then Some (Minutes minutes) else None)

-- the limit that a text means: seconds round up to whole minutes
unfoldable pub limit_of : List ℕ → Option Limit
limit_of text =
    if str_eq_ignore_ascii_case text (codes "UNLIMITED") || str_eq_ignore_ascii_case text (codes "INFINITE")
    then Some Unlimited
    else (seconds_of text >>= λ seconds. limit_of_minutes ((seconds + 59) / 60))
