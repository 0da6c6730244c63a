-- Texts of moments, which are seconds since 1970-01-01T00:00:00 in UTC.
use Rattle.std.specs.Prelude.{ℕ, ◌+◌, ◌*◌, ◌/◌, ◌%◌, ◌||◌, nat_le, ◌==◌, if◌then◌else◌, List, [], ◌∷◌, ◌++◌, length, Option, None, Some, codes}
use Rattle.std.specs.Str.{bytes_eq, byte}
use Rattle.small_texts.specs.Civil.{day_number, date_after}
use Rattle.small_texts.specs.Digits.{number_within, leading_digits, after_digits, two_digits}
use Rattle.small_texts.specs.Fields.{fields}
use Rattle.small_texts.specs.declared.civil.CivilDate.{CivilDate}
use Rattle.small_texts.specs.Options.{◌>>=◌}

-- the number of a text of just so many digits, up to a greatest
unfoldable pub number_of_width : ℕ → ℕ → List ℕ → Option ℕ
number_of_width width greatest text = if length text == width then number_within width greatest text else None

-- `YYYY-MM-DD`, by its fields
unfoldable pub day_of_date : List (List ℕ) → Option ℕ
day_of_date (year ∷ month ∷ day ∷ []) = do
  y ← number_of_width 4 9999 year
  m ← number_of_width 2 12 month
  d ← number_of_width 2 31 day
  day_number y m d
day_of_date _ = None

-- `HH:MM` and `HH:MM:SS`, by its fields
unfoldable pub seconds_of_clock : List (List ℕ) → Option ℕ
seconds_of_clock (hours ∷ minutes ∷ []) = do
  h ← number_of_width 2 23 hours
  m ← number_of_width 2 59 minutes
  Some (3600 * h + 60 * m)
seconds_of_clock (hours ∷ minutes ∷ seconds ∷ []) = do
  h ← number_of_width 2 23 hours
  m ← number_of_width 2 59 minutes
  s ← number_of_width 2 59 seconds
  Some (3600 * h + 60 * m + s)
seconds_of_clock _ = None

-- a date (its fields parted by 45, a dash) and a time of day (by 58, a colon)
unfoldable pub civil_moment : List (List ℕ) → Option ℕ
civil_moment (date ∷ clock ∷ []) = do
  days ← day_of_date (fields (byte "-") date)
  seconds ← seconds_of_clock (fields (byte ":") clock)
  Some (86_400 * days + seconds)
civil_moment _ = None

-- the seconds of a unit of time, which are seconds where none is named
unfoldable pub unit_of : List ℕ → Option ℕ
unit_of unit =
    if bytes_eq unit [] || bytes_eq unit (codes "seconds") then Some 1
    else (if bytes_eq unit (codes "minutes") then Some 60
    else (if bytes_eq unit (codes "hours") then Some 3600
    else (if bytes_eq unit (codes "days") then Some 86_400
    else (if bytes_eq unit (codes "weeks") then Some 604_800
    else None))))

-- one to nine digits and a unit
unfoldable pub wait_of : List ℕ → Option ℕ
wait_of text = do
  number ← number_within 9 999_999_999 (leading_digits text)
  unit ← unit_of (after_digits text)
  Some (number * unit)

-- by its fields at a plus (43): `now`, or a date and a time of day parted by 84, a T; `now` and a wait behind the plus
unfoldable pub moment_of_parts : ℕ → List (List ℕ) → Option ℕ
moment_of_parts now (text ∷ []) = if bytes_eq text (codes "now") then Some now else civil_moment (fields (byte "T") text)
moment_of_parts now (text ∷ wait ∷ []) =
    if bytes_eq text (codes "now") then (wait_of wait >>= λ seconds. Some (now + seconds)) else None
moment_of_parts now _ = None

-- moments end at 250,000,000,000
abbrev pub up_to_last : ℕ → Option ℕ
up_to_last moment = if nat_le moment 250_000_000_000 then Some moment else None

-- the moment that a text names, read at the moment `now`
unfoldable pub moment_of : List ℕ → ℕ → Option ℕ
moment_of text now = moment_of_parts now (fields (byte "+") text) >>= λ moment. up_to_last moment

-- `YYYY-MM-DD`
abbrev pub date_text : CivilDate → List ℕ
date_text date =
    two_digits (date.year / 100) ++ two_digits (date.year % 100) ++ codes "-" ++ two_digits date.month ++ codes "-"
    ++ two_digits date.day

-- `HH:MM:SS`, of so many seconds of a day
abbrev pub clock_text : ℕ → List ℕ
clock_text seconds =
    two_digits (seconds / 3600) ++ codes ":" ++ two_digits (seconds / 60 % 60) ++ codes ":" ++ two_digits (seconds % 60)

-- a moment as it is printed
unfoldable pub moment_text : ℕ → List ℕ
moment_text moment = date_text (date_after (moment / 86_400)) ++ codes "T" ++ clock_text (moment % 86_400)
