use Rattle.std.proofs.Common.{◌≡◌, None, Some, sym, arith}
use Rattle.orders_text.proofs.Runs.{run_ends}
use Rattle.orders_text.proofs.cpus.read_run.Goals as goal

pub returns-in_err-first-clause-only : goal.returns-in_err-first-clause-only
returns-in_err-first-clause-only c = λ first last up small is.
    let ends = run_ends first last c.args.text.now c.ends_of.result.0.now c.ends_of.result.1.now c.ends_of.ensures.cut
    c.ends_of.ensures.whole (omega arith) is in
    let none : None ≡ Some first = c.in_err-first.ensures.only first (omega arith) (sym ends.is_low) in
    absurd (cc)

pub returns-in_err-last-clause-only : goal.returns-in_err-last-clause-only
returns-in_err-last-clause-only c = λ first last up small is.
    let ends = run_ends first last c.args.text.now c.ends_of.result.0.now c.ends_of.result.1.now c.ends_of.ensures.cut
    c.ends_of.ensures.whole (omega arith) is in
    let none : None ≡ Some last = c.in_err-last.ensures.only last (omega arith) (sym ends.is_high) in
    absurd (cc)

pub returns-clause-only : goal.returns-clause-only
returns-clause-only c = λ first last up small is.
    let ends = run_ends first last c.args.text.now c.ends_of.result.0.now c.ends_of.result.1.now c.ends_of.ensures.cut
    c.ends_of.ensures.whole (omega arith) is in
    let one : Some c.in_ok-first.first ≡ Some first = c.in_ok-first.ensures.only first (omega arith) (sym ends.is_low) in
    let other : Some c.in_ok-last.last ≡ Some last = c.in_ok-last.ensures.only last (omega arith) (sym ends.is_high) in
    (cc, cc)
