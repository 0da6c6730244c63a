-- Dates of the civil calendar, and how many days after 1970-01-01 they are.
use Rattle.std.specs.Prelude.{◌≡◌, ℕ, zero, suc, ◌+◌, ◌-◌, Bool, ◌&&◌, nat_le, nat_lt, if◌then◌else◌, Option, None, Some, ℤ, pos, negsuc}
use Rattle.jiff.specs.Words.{days_in_month, days_in_year}
use Rattle.jiff_core.specs.Calendar.{days_from_civil, IsCivilDate}
use Rattle.small_texts.specs.declared.civil.CivilDate.{CivilDate}

-- the calendar has this day
abbrev pub is_civil_date : ℕ → ℕ → ℕ → Bool
is_civil_date year month day =
    nat_le 1 month && nat_le month 12 && nat_le 1 day && nat_le day (days_in_month (pos year) month)

-- a number that is not negative
abbrev pub not_negative : ℤ → Option ℕ
not_negative (pos n) = Some n
not_negative (negsuc n) = None

-- how many days after 1970-01-01 the date is, which the calendar must have
unfoldable pub day_number : ℕ → ℕ → ℕ → Option ℕ
day_number year month day =
    if is_civil_date year month day then not_negative (days_from_civil (pos year) month day) else None

-- so many days after the first of a month, which lies in it or in one of the next months
unfoldable pub date_from_month : ℕ → ℕ → ℕ → ℕ → CivilDate
date_from_month zero year month days = record { year = year; month = month; day = days + 1 }
date_from_month (suc next) year month days =
    if nat_lt days (days_in_month (pos year) month) then record { year = year; month = month; day = days + 1 }
    else date_from_month next year (suc month) (days - days_in_month (pos year) month)

-- so many days after 1 January of a year, which lies in it or in one of the next years
unfoldable pub date_from_year : ℕ → ℕ → ℕ → CivilDate
date_from_year zero year days = date_from_month 11 year 1 days
date_from_year (suc next) year days =
    if nat_lt days (days_in_year (pos year)) then date_from_month 11 year 1 days
    else date_from_year next (suc year) (days - days_in_year (pos year))

-- the date so many days after 1970-01-01, up to the year 9999
unfoldable pub date_after : ℕ → CivilDate
date_after days = date_from_year 8029 1970 days

-- the calendar has the date, and it is so many days after 1970-01-01
abbrev pub IsDateAfter : ℕ → CivilDate → Type 0
IsDateAfter days date =
    IsCivilDate (pos date.year) date.month date.day
    × (days_from_civil (pos date.year) date.month date.day ≡ pos days)
