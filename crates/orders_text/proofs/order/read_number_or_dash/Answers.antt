use Rattle.std.proofs.Common.{◌∙◌, ap, Some, sym}
use Rattle.std.specs.Cmp.Lexicographic.{same_text}
use Rattle.orders_text.proofs.Parting.{dash_none}
use Rattle.orders_text.proofs.order.read_number_or_dash.Goals as goal

pub returns-then-eq-clause-only : goal.returns-then-eq-clause-only
returns-then-eq-clause-only c = λ number fits says.
    ap Some (sym (dash_none number c.args.text.now fits (same_text _ _ c.if-eq.ensures ∙ c.as_slice.ensures) says))
