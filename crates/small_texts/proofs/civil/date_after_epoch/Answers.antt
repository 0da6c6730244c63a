use Rattle.std.proofs.Common.{◌≡◌, arith, FitsSigned, w16, w64, pos, ◌∙◌}
use Rattle.std.specs.Prelude.{unsigned_abs}
use Rattle.std.proofs.lemmas.Int.{to_z-of_z, to_z_pos}
use Rattle.jiff_core.specs.Calendar.{days_from_civil}
use Rattle.small_texts.proofs.CivilLemmas.{date_after_is}
use Rattle.small_texts.proofs.civil.date_after_epoch.Goals as goal

pub returns-clause-date : goal.returns-clause-date
returns-clause-date c =
    let date = c.unwrap-date.result in
    let fits : FitsSigned w16 date.year = omega arith in
    let days = to_z_pos w64 c.args.days (omega arith) in
    let found = rw c.unwrap-date.ensures at c.from_unix_epoch_day.ensures.value in
    let number : days_from_civil date.year date.month date.day ≡ pos c.args.days = found ∙ days in
    let year : c.from.result ≡ unsigned_abs date.year = c.from.ensures ∙ (simp to_z-of_z at c.unsigned_abs.ensures.value) in
    rw (c.from-2.ensures, c.from-3.ensures)
    (date_after_is date.year c.from.result date.month date.day c.args.days (date.year_in, date.month_in, date.day_in) number year).0

pub returns-clause-civil : goal.returns-clause-civil
returns-clause-civil c =
    let date = c.unwrap-date.result in
    let fits : FitsSigned w16 date.year = omega arith in
    let days = to_z_pos w64 c.args.days (omega arith) in
    let found = rw c.unwrap-date.ensures at c.from_unix_epoch_day.ensures.value in
    let number : days_from_civil date.year date.month date.day ≡ pos c.args.days = found ∙ days in
    let year : c.from.result ≡ unsigned_abs date.year = c.from.ensures ∙ (simp to_z-of_z at c.unsigned_abs.ensures.value) in
    rw (c.from-2.ensures, c.from-3.ensures)
    (date_after_is date.year c.from.result date.month date.day c.args.days (date.year_in, date.month_in, date.day_in) number year).1
