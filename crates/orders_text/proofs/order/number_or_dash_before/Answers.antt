use Rattle.std.proofs.Common.{◌≡◌, arith, sym, None, Some}
use Rattle.slurm_print.specs.Orders.{number_or_dash}
use Rattle.orders_text.proofs.Parting.{dash_lacks}
use Rattle.orders_text.proofs.order.number_or_dash_before.Goals as goal

pub returns-in_err-value-clause-only : goal.returns-in_err-value-clause-only
returns-in_err-value-clause-only c = λ number rest fits is.
    let lack = dash_lacks c.args.mark number (omega arith) fits in
    absurd (c.in_err-value.ensures.only (number_or_dash number) rest (record { cut = is; first = lack }))

pub returns-in_err-number-clause-only : goal.returns-in_err-number-clause-only
returns-in_err-number-clause-only c = λ number rest fits is.
    let lack = dash_lacks c.args.mark number (omega arith) fits in
    let parts = c.in_ok-value.ensures.only (number_or_dash number) rest (record { cut = is; first = lack }) in
    let none : None ≡ Some number = c.in_err-number.ensures.only number fits (sym parts.0) in
    absurd (cc)

pub returns-clause-only : goal.returns-clause-only
returns-clause-only c = λ number rest fits is.
    let lack = dash_lacks c.args.mark number (omega arith) fits in
    let parts = c.in_ok-value.ensures.only (number_or_dash number) rest (record { cut = is; first = lack }) in
    let read : Some c.in_ok-number.number ≡ Some number = c.in_ok-number.ensures.only number fits (sym parts.0) in
    (cc, parts.1)
