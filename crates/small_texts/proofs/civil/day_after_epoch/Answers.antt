use Rattle.std.proofs.Common.{arith, FitsSigned, w8, w16, w32, ap, refl, ◌∙◌}
use Rattle.std.proofs.lemmas.Int.{to_z-of_z, to_z_pos}
use Rattle.jiff.specs.Words.{epoch_day}
use Rattle.small_texts.specs.Civil.{not_negative}
use Rattle.small_texts.proofs.CivilLemmas.{converted, day_number-date}
use Rattle.small_texts.proofs.civil.day_after_epoch.Goals as goal

pub returns-clause-value : goal.returns-clause-value
returns-clause-value c =
    let number : FitsSigned w32 c.to_unix_epoch_day.result = omega arith in
    let read = simp to_z-of_z at c.try_from.ensures in
    let year = to_z_pos w16 c.args.year (omega arith) in
    let month = to_z_pos w8 c.args.month (omega arith) in
    let day = to_z_pos w8 c.args.day (omega arith) in
    let found = simp (year, month, day) at (c.in-Ok.ensures.succeeds.0 refl) in
    let same = simp (year, month, day) at c.in-Ok.ensures.value in
    c.ok.ensures.value
    ∙ converted c.to_unix_epoch_day.result c.try_from.result read number
    ∙ ap not_negative (c.to_unix_epoch_day.ensures.value ∙ ap epoch_day c.to_plain.ensures)
    ∙ day_number-date c.args.year c.args.month c.args.day c.in-Ok.date found same
