use Rattle.std.proofs.Common.{◌≡◌, None, Some, sym, ap}
use Rattle.orders_text.specs.Amounts.{amounts_text}
use Rattle.table_texts.specs.Ranges.{ranges_text}
use Rattle.orders_text.proofs.Launching.{amounts_of, behind_start, cpus_field, fits_amounts, launch_fits, launch_says, launch_split, same_launch}
use Rattle.orders_text.proofs.order.read_launch.Goals as goal

pub returns-in_default-clause-only : goal.returns-in_default-clause-only
returns-in_default-clause-only c = λ launch fits is.
    absurd (c.in_default.ensures.only launch.start (behind_start launch) fits.start (launch_split launch c.args.line.now is))

pub returns-in_default-value_before-clause-only : goal.returns-in_default-value_before-clause-only
returns-in_default-value_before-clause-only c = λ launch fits is.
    let parts = c.in-Some.ensures.only launch.start (behind_start launch) fits.start (launch_split launch c.args.line.now is) in
    absurd (c.in_default-value_before.ensures.only (ranges_text launch.cpus) (amounts_text (amounts_of launch))
    (cpus_field launch _ fits parts.1))

pub returns-in_default-read_amounts-clause-only : goal.returns-in_default-read_amounts-clause-only
returns-in_default-read_amounts-clause-only c = λ launch fits is.
    let parts = c.in-Some.ensures.only launch.start (behind_start launch) fits.start (launch_split launch c.args.line.now is) in
    let field = c.in-Some-value_before.ensures.only (ranges_text launch.cpus) (amounts_text (amounts_of launch))
    (cpus_field launch _ fits parts.1) in
    let no : None ≡ Some (amounts_of launch) =
    c.in_default-read_amounts.ensures.only (amounts_of launch) (fits_amounts launch fits) (sym field.1) in
    absurd (cc)

pub returns-in_default-2-clause-only : goal.returns-in_default-2-clause-only
returns-in_default-2-clause-only c = λ launch fits is.
    let parts = c.in-Some.ensures.only launch.start (behind_start launch) fits.start (launch_split launch c.args.line.now is) in
    let field = c.in-Some-value_before.ensures.only (ranges_text launch.cpus) (amounts_text (amounts_of launch))
    (cpus_field launch _ fits parts.1) in
    let some = c.in_ok-cpus.ensures.only launch.cpus fits.cpus (sym field.0) in
    absurd (rw c.in_default-2.is at some)

pub returns-clause-some : goal.returns-clause-some
returns-clause-some c =
    let start = c.in-Some.ensures.some in
    let amounts = c.in-Some-read_amounts.ensures.some in
    let cpus = rw c.in-Some-2.is at c.in_ok-cpus.ensures.some in (
      launch_fits c.in-Some.start c.in-Some-2.cpus c.in-Some-read_amounts.amounts start.0 cpus.0 amounts.0,
      launch_says c.in-Some.start c.in-Some-2.cpus c.in-Some-read_amounts.amounts c.args.line.now _ _ _ start.1
          c.in-Some-value_before.ensures.some cpus.1 amounts.1,
    )

pub returns-clause-only : goal.returns-clause-only
returns-clause-only c = λ launch fits is.
    let parts = c.in-Some.ensures.only launch.start (behind_start launch) fits.start (launch_split launch c.args.line.now is) in
    let field = c.in-Some-value_before.ensures.only (ranges_text launch.cpus) (amounts_text (amounts_of launch))
    (cpus_field launch _ fits parts.1) in
    let read : Some c.in-Some-read_amounts.amounts ≡ Some (amounts_of launch) =
    c.in-Some-read_amounts.ensures.only (amounts_of launch) (fits_amounts launch fits) (sym field.1) in
    let cpus = rw c.in-Some-2.is at (c.in_ok-cpus.ensures.only launch.cpus fits.cpus (sym field.0)) in
    ap Some (same_launch launch c.in-Some.start c.in-Some-2.cpus c.in-Some-read_amounts.amounts parts.0 cpus (cc))
