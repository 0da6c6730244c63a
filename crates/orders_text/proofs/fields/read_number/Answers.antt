use Rattle.std.proofs.Common.{decimal, true, false, ◌≡◌, Some, None, sym, ap, ◌∙◌, arith}
use Rattle.small_texts.specs.Digits.{number_within}
use Rattle.orders_text.proofs.Cutting.{decimal_read}
use Rattle.std.specs.Cmp.Lexicographic.{bytes_decides}
use Rattle.orders_text.proofs.fields.read_number.Goals as goal

pub returns-in_err-number-clause-only : goal.returns-in_err-number-clause-only
returns-in_err-number-clause-only c = λ number low is.
    let none : None ≡ Some number = c.in_err-number.ensures.value ∙ ap (number_within 20 c.args.greatest) (sym is)
    ∙ decimal_read number c.args.greatest low (omega arith) in
    absurd (cc)

pub returns-then-eq-clause-only : goal.returns-then-eq-clause-only
returns-then-eq-clause-only c = λ number low is.
    c.in_ok-number.ensures.value ∙ ap (number_within 20 c.args.greatest) (sym is)
    ∙ decimal_read number c.args.greatest low (omega arith)

pub returns-else-eq-clause-only : goal.returns-else-eq-clause-only
returns-else-eq-clause-only c = λ number low is.
    let read : Some c.in_ok-number.number ≡ Some number = c.in_ok-number.ensures.value
    ∙ ap (number_within 20 c.args.greatest) (sym is) ∙ decimal_read number c.args.greatest low (omega arith) in
    let one : c.in_ok-number.number ≡ number = cc in
    let same : c.as_bytes.result.now ≡ c.args.digits.now = c.as_bytes.ensures.value ∙ c.format.ensures.text ∙ ap decimal one ∙ is in
    let yes : false ≡ true = c.if-eq.ensures ∙ (bytes_decides _ _).1 same in
    absurd (cc)
