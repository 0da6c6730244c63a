use Rattle.std.proofs.Common.{sym}
use Rattle.small_texts.proofs.FieldsLemmas.{cut_at, cut_nowhere}
use Rattle.small_texts.proofs.fields.first_field.Goals as goal

pub returns-in-Some-clause-cut : goal.returns-in-Some-clause-cut
returns-in-Some-clause-cut c = cut_at _ _ _ (sym c.in-Some.ensures)

pub returns-in-None-clause-cut : goal.returns-in-None-clause-cut
returns-in-None-clause-cut c = cut_nowhere _ _ (sym c.in-None.ensures)
