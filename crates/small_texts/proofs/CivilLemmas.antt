-- Days of the civil calendar.
use Rattle.std.proofs.Common.{◌≡◌, ℕ, zero, suc, ◌+◌, ◌-◌, ◌⊎◌, inl, inr, lit≤, ◌≤ℤ◌, ◌<◌, ◌≤◌, true, ℤ, pos, negsuc, Some, Result, Ok, Err, refl, sym, ap, subst, ◌∙◌, arith, FitsSigned, w32}
use Rattle.std.proofs.lemmas.Int.{by_lt_z}
use Rattle.std.proofs.lemmas.Bool.{cond-true, cond-false, lt-ltb, le-ltb, cases_lt, and_from, le-leb}
use Rattle.std.specs.Int.{FitsUnsignedBits}
use Rattle.std.specs.Prelude.{unsigned_abs}
use Rattle.jiff.proofs.SpanFacts.{signed_arith}
use Rattle.std.specs.Result.{OkIff, result_ok}
use Rattle.jiff.specs.Types.{Date}
use Rattle.jiff.specs.Words.{epoch_day, IsDate, IsYmd}
use Rattle.jiff_core.proofs.CalendarLemmas.{day_count-epoch, day_count-lt_year, day_count-next_year, day_count-year_is, day_count-day_of_year, day_of_year_bound, days_from_civil-day_count, days_of_months_mono, days_of_months-zero, days_in_month_bounds}
use Rattle.jiff_core.specs.Calendar.{days_from_civil, days_of_months, days_in_month, day_count, days_in_year, IsCivilDate}
use Rattle.small_texts.specs.declared.civil.CivilDate.{CivilDate}
use Rattle.small_texts.specs.Civil.{is_civil_date, not_negative, day_number, date_from_month, date_from_year, date_after, IsDateAfter}

-- a conversion to an unsigned number says whether the number is negative
pub converted : {E : Type 0} (z : ℤ) (r : Result ℕ E) → OkIff r (FitsUnsignedBits 64 z) (unsigned_abs z) → FitsSigned w32 z → result_ok r ≡ not_negative z
converted (pos n) (Ok x) h fits = ap Some h.1
converted (pos n) (Err e) h fits = absurd (h (omega arith))
converted (negsuc n) (Ok x) h fits = absurd h.0
converted (negsuc n) (Err e) h fits = refl

-- the number of a day that the calendar has
pub day_number-date : (year month day : ℕ) (date : Date) → IsDate (pos year) (pos month) (pos day) → IsYmd (pos year) (pos month) (pos day) date → not_negative (epoch_day date) ≡ day_number year month day
unfolding day_number
day_number-date year month day date found same =
    let y : date.year ≡ pos year = same.0 in
    let m : date.month ≡ month = omega (arith, signed_arith, same.1) in
    let d : date.day ≡ day = omega (arith, signed_arith, same.2) in
    let there : is_civil_date year month day ≡ true =
    and_from _ _ (and_from _ _ (and_from _ _ (le-leb 1 month (omega (arith, signed_arith, found.1.0))) (le-leb month 12 (omega (arith, signed_arith, found.1.1)))) (le-leb 1 day (omega (arith, signed_arith, found.2.0)))) (le-leb day _ (omega (arith, signed_arith, found.2.1))) in
    let same_day : days_from_civil date.year date.month date.day ≡ days_from_civil (pos year) month day = cc in
    ap not_negative same_day ∙ sym (cond-true (is_civil_date year month day) _ _ there)

abbrev pub civil : ℕ → ℕ → ℕ → CivilDate
civil y m d = record { year = y; month = m; day = d }

same_civil : (y m d y' m' d' : ℕ) → y ≡ y' → m ≡ m' → d ≡ d' → civil y m d ≡ civil y' m' d'
same_civil y m d y' m' d' a b c =
    ap (λ x. civil x m d) a ∙ ap (λ x. civil y' x d) b ∙ ap (λ x. civil y' m' x) c

months_more : (y : ℤ) (n : ℕ) → days_of_months y (suc n) ≡ days_of_months y n + days_in_month y (suc n)
unfolding days_of_months
months_more y n = refl

-- a day within the month lies in it
month_is : (year passed days k d : ℕ) → 1 ≤ d → days_of_months (pos year) passed + days + 1 ≡ days_of_months (pos year) k + d → passed ≤ k → days < days_in_month (pos year) (suc passed) → passed ≡ k
month_is year passed days k d first count low inside = go (cases_lt passed k)
  where
    go : (passed < k) ⊎ (k ≤ passed) → passed ≡ k
    go (inl earlier) =
        absurd (omega (arith, months_more (pos year) passed, days_of_months_mono (pos year) (suc passed) k earlier))
    go (inr same) = omega arith

-- and one behind it in a later month
month_later : (year passed days k d : ℕ) → d ≤ days_in_month (pos year) (suc k) → days_of_months (pos year) passed + days + 1 ≡ days_of_months (pos year) k + d → passed ≤ k → days_in_month (pos year) (suc passed) ≤ days → suc passed ≤ k
month_later year passed days k d last count low later = go (cases_lt passed k)
  where
    go : (passed < k) ⊎ (k ≤ passed) → suc passed ≤ k
    go (inl earlier) = earlier
    go (inr same) =
        let here : passed ≡ k = omega arith in
        absurd (omega (arith, ap (days_of_months (pos year)) here, ap (λ n. days_in_month (pos year) (suc n)) here))

-- months are passed until the day lies in one
pub date_from_month_is : (next year passed days k d : ℕ) → 1 ≤ d → d ≤ days_in_month (pos year) (suc k) → passed ≤ k → k ≤ passed + next → days_of_months (pos year) passed + days + 1 ≡ days_of_months (pos year) k + d → date_from_month next year (suc passed) days ≡ civil year (suc k) d
unfolding date_from_month
date_from_month_is zero year passed days k d first last low high count =
    let here : passed ≡ k = omega arith in
    let day : days + 1 ≡ d = omega (arith, ap (days_of_months (pos year)) here) in
    same_civil year (suc passed) (days + 1) year (suc k) d refl (ap suc here) day
date_from_month_is (suc next) year passed days k d first last low high count =
    elim (cases_lt days (days_in_month (pos year) (suc passed))) [
      | inl inside ↦
          let here : passed ≡ k = month_is year passed days k d first count low inside in
          let day : days + 1 ≡ d = omega (arith, ap (days_of_months (pos year)) here) in
          cond-true _ _ _ (lt-ltb _ _ inside) ∙ same_civil year (suc passed) (days + 1) year (suc k) d refl (ap suc here) day
      | inr later ↦
          let up : suc passed ≤ k = month_later year passed days k d last count low later in
          let more = months_more (pos year) passed in
          cond-false _ _ _ (le-ltb _ _ later)
          ∙ date_from_month_is next year (suc passed) (days - days_in_month (pos year) (suc passed)) k d first last up (omega arith) (omega arith)
    ]

-- what lies within a year, and where its day is
in_year : (y m d days : ℕ) → IsCivilDate (pos y) m d → day_count (pos y) 1 1 + days ≡ day_count (pos y) m d → date_from_month 11 y 1 days ≡ civil y m d
in_year y m d days date count =
    let k = m - 1 in
    let month : suc k ≡ m = omega (arith, date.1.0) in
    let last : d ≤ days_in_month (pos y) (suc k) = rw month date.2.1 in
    let within = day_count-day_of_year (pos y) m d date.2.0 in
    let none = days_of_months-zero (pos y) in
    date_from_month_is 11 y 0 days k d date.2.0 last (omega arith) (omega (arith, date.1.1)) (omega arith)
    ∙ same_civil y (suc k) d y m d refl month refl

-- a day within the year lies in it
year_is : (year days y m d : ℕ) → year ≤ 9999 → IsCivilDate (pos y) m d → day_count (pos year) 1 1 + days ≡ day_count (pos y) m d → days < days_in_year (pos year) → year ≡ y
year_is year days y m d small date count inside =
    let same = day_count-year_is (pos year) (pos y) m d (omega (arith, signed_arith), omega (arith, signed_arith)) date (omega arith) (omega arith) in
    omega (arith, signed_arith, same)

-- and one behind it in a later year
year_later : (year days y m d : ℕ) → IsCivilDate (pos y) m d → year ≤ y → day_count (pos year) 1 1 + days ≡ day_count (pos y) m d → days_in_year (pos year) ≤ days → suc year ≤ y
year_later year days y m d date low count later = go (cases_lt year y)
  where
    go : (year < y) ⊎ (y ≤ year) → suc year ≤ y
    go (inl earlier) = earlier
    go (inr same) =
        let here : year ≡ y = omega arith in
        absurd (omega (arith, ap (λ n. day_count (pos n) 1 1) here, ap (λ n. days_in_year (pos n)) here, day_count-day_of_year (pos y) m d date.2.0, day_of_year_bound (pos y) m d date))

-- years are passed until the day lies in one
pub date_from_year_is : (next year days y m d : ℕ) → year ≤ 9999 → IsCivilDate (pos y) m d → year ≤ y → y ≤ year + next → day_count (pos year) 1 1 + days ≡ day_count (pos y) m d → date_from_year next year days ≡ civil y m d
unfolding date_from_year
date_from_year_is zero year days y m d small date low high count =
    let here : year ≡ y = omega arith in
    ap (λ x. date_from_month 11 x 1 days) here ∙ in_year y m d days date (sym (ap (λ n. day_count (pos n) 1 1 + days) here) ∙ count)
date_from_year_is (suc next) year days y m d small date low high count =
    elim (cases_lt days (days_in_year (pos year))) [
      | inl inside ↦
          let here : year ≡ y = year_is year days y m d small date count inside in
          cond-true _ _ _ (lt-ltb _ _ inside) ∙ ap (λ x. date_from_month 11 x 1 days) here ∙ in_year y m d days date (sym (ap (λ n. day_count (pos n) 1 1 + days) here) ∙ count)
      | inr later ↦
          let up : suc year ≤ y = year_later year days y m d date low count later in
          let next_year = day_count-next_year (pos year) (pos (suc year)) (omega (arith, signed_arith)) (omega (arith, signed_arith)) in
          cond-false _ _ _ (le-ltb _ _ later)
          ∙ date_from_year_is next (suc year) (days - days_in_year (pos year)) y m d (omega (arith, signed_arith, date.0.1)) date up (omega arith) (omega arith)
    ]

-- a day that isn't before 1970-01-01 has no earlier year
year_since : (y : ℤ) (m d days : ℕ) → IsCivilDate y m d → days_from_civil y m d ≡ pos days → pos 1970 ≤ℤ y
year_since y m d days date same =
    by_lt_z y (pos 1970)
    (λ early. absurd (omega (arith, signed_arith, day_count-lt_year y m d (pos 1970) 1 1 date (lit≤ tt) early, day_count-epoch, days_from_civil-day_count y m d, same)))
    (λ since. since)

-- the one date of the calendar that is so many days after 1970-01-01
pub date_after_is : (z : ℤ) (y m d days : ℕ) → IsCivilDate z m d → days_from_civil z m d ≡ pos days → y ≡ unsigned_abs z → (civil y m d ≡ date_after days) × IsDateAfter days (civil y m d)
unfolding date_after
date_after_is (pos n) y m d days date same year =
    let since = year_since (pos n) m d days date same in
    let count : day_count (pos 1970) 1 1 + days ≡ day_count (pos n) m d =
    omega (arith, signed_arith, day_count-epoch, days_from_civil-day_count (pos n) m d, same) in (
      ap (λ x. civil x m d) year
          ∙ sym (date_from_year_is 8029 1970 days n m d (lit≤ tt) date (omega (arith, signed_arith, since)) (omega (arith, signed_arith, date.0.1)) count),
      subst (λ (x : ℕ). IsDateAfter days (civil x m d)) (sym year) (date, same),
    )
date_after_is (negsuc n) y m d days date same year =
    absurd (omega (arith, signed_arith, year_since (negsuc n) m d days date same))

-- and its number is that again
pub day_number-date_after : (days : ℕ) (date : CivilDate) → IsDateAfter days date → day_number date.year date.month date.day ≡ Some days
unfolding day_number
day_number-date_after days date found =
    let there : is_civil_date date.year date.month date.day ≡ true =
    and_from _ _ (and_from _ _ (and_from _ _ (le-leb 1 date.month found.0.1.0) (le-leb date.month 12 found.0.1.1)) (le-leb 1 date.day found.0.2.0)) (le-leb date.day _ found.0.2.1) in
    cond-true (is_civil_date date.year date.month date.day) _ _ there ∙ ap not_negative found.1

-- the numbers of a date in two digits, and in four
pub date_bounds : (days : ℕ) (date : CivilDate) → IsDateAfter days date → (date.year ≤ 9999) × (date.month ≤ 12) × (date.day ≤ 31)
date_bounds days date found =
    let short = days_in_month_bounds (pos date.year) date.month in
    (omega (arith, signed_arith, found.0.0.1), found.0.1.1, omega (arith, found.0.2.1))
