use Rattle.std.proofs.Common.{◌≡◌, decimal, arith, sym, None, Some}
use Rattle.orders_text.proofs.Cutting.{decimal_lacks}
use Rattle.orders_text.proofs.fields.number_before.Goals as goal

pub returns-in_err-digits-clause-only : goal.returns-in_err-digits-clause-only
returns-in_err-digits-clause-only c = λ number rest low is.
    let lack = decimal_lacks c.args.mark number (omega arith) (omega arith) in
    absurd (c.in_err-digits.ensures.only (decimal number) rest (record { cut = is; first = lack }))

pub returns-in_err-number-clause-only : goal.returns-in_err-number-clause-only
returns-in_err-number-clause-only c = λ number rest low is.
    let lack = decimal_lacks c.args.mark number (omega arith) (omega arith) in
    let parts = c.in_ok-digits.ensures.only (decimal number) rest (record { cut = is; first = lack }) in
    let none : None ≡ Some number = c.in_err-number.ensures.only number low (sym parts.0) in
    absurd (cc)

pub returns-clause-only : goal.returns-clause-only
returns-clause-only c = λ number rest low is.
    let lack = decimal_lacks c.args.mark number (omega arith) (omega arith) in
    let parts = c.in_ok-digits.ensures.only (decimal number) rest (record { cut = is; first = lack }) in
    let read : Some c.in_ok-number.number ≡ Some number = c.in_ok-number.ensures.only number low (sym parts.0) in
    (cc, parts.1)
