use Rattle.std.proofs.Common.{◌∷◌, ◌++◌, None, Some}
use Rattle.std.proofs.lemmas.Bool.Decides.{Decides-eqb}
use Rattle.std.proofs.lemmas.Slice.Eq.{strip_prefix_is}
use Rattle.orders_text.proofs.Cutting.{field_found}
use Rattle.orders_text.proofs.fields.value_before.Goals as goal

pub returns-in_err-behind-clause-only : goal.returns-in_err-behind-clause-only
returns-in_err-behind-clause-only c = λ value rest field.
    absurd (strip_prefix_is Decides-eqb c.args.text.now c.args.label.now None c.in_err-behind.ensures.cases
    (value ++ c.args.mark ∷ rest) field.cut)

pub returns-clause-some : goal.returns-clause-some
returns-clause-some c =
    let behind = c.in_ok-behind.behind in
    field_found c.args.text.now c.args.label.now behind.now c.args.mark c.cut.result
    (strip_prefix_is Decides-eqb c.args.text.now c.args.label.now (Some behind) c.in_ok-behind.ensures.cases) c.cut.ensures.parts
