use Rattle.std.proofs.Common.{◌≡◌, ◌∙◌, sym, Some, None}
use Rattle.orders_text.proofs.Cutting.{cut_found, lacks_all, parts_told, position_cut}
use Rattle.orders_text.proofs.fields.cut.Goals as goal

pub returns-in_err-at-clause-parts : goal.returns-in_err-at-clause-parts
returns-in_err-at-clause-parts c =
    rw c.from_residual.ensures (lacks_all c.args.text.now c.args.mark (sym c.in_err-at.ensures.value))

pub returns-in_err-at-clause-only : goal.returns-in_err-at-clause-only
returns-in_err-at-clause-only c = λ front back cut.
    let none : None ≡ Some _ = c.in_err-at.ensures.value ∙ position_cut c.args.text.now c.args.mark front back cut in
    absurd (cc)

pub returns-clause-parts : goal.returns-clause-parts
returns-clause-parts c =
    rw (c.split_at.ensures.front, c.split_at-2.ensures.back) (cut_found c.args.text.now c.args.mark c.in_ok-at.at (sym c.in_ok-at.ensures.value))

pub returns-clause-only : goal.returns-clause-only
returns-clause-only c = λ front back cut.
    let parts = parts_told c.args.text.now c.args.mark c.in_ok-at.at front back (sym c.in_ok-at.ensures.value) cut in
    (c.split_at.ensures.front ∙ parts.0, c.split_at-2.ensures.back ∙ parts.1)
