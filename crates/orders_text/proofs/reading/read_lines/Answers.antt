use Rattle.std.proofs.Common.{length, sym, ap, ◌∙◌, subst, arith}
use Rattle.std.proofs.lemmas.List.{length-drop}
use Rattle.orders_text.specs.Drafts.{TakesLine}
use Rattle.orders_text.proofs.Going.{first_bad_line, none_read, only_read, step}
use Rattle.orders_text.proofs.reading.read_lines.Goals as goal

pub returns-then-not-branch-clause-read : goal.returns-then-not-branch-clause-read
returns-then-not-branch-clause-read c =
    first_bad_line c.args.text.now c.first_line-line.result.now _ c.loop-at.at c.loop-at.number c.loop-at.draft c.read_line.new.self c.loop-at.invariant
    (sym c.split_at.ensures.back ∙ c.first_line-line.ensures.cut) c.first_line-line.ensures.line
    (subst (TakesLine c.loop-at.draft c.read_line.new.self c.first_line-line.result.now) c.if-not-branch.true c.in_ok-read_line.ensures)

pub returns-then-not-branch-clause-only : goal.returns-then-not-branch-clause-only
returns-then-not-branch-clause-only c = λ orders are says.
    none_read c.args.text.now c.first_line-line.result.now _ c.loop-at.at c.loop-at.number c.loop-at.draft c.read_line.new.self orders c.loop-at.invariant
    (sym c.split_at.ensures.back ∙ c.first_line-line.ensures.cut) c.first_line-line.ensures.line
    (subst (TakesLine c.loop-at.draft c.read_line.new.self c.first_line-line.result.now) c.if-not-branch.true c.in_ok-read_line.ensures) are says

pub loop-at-preserved : goal.loop-at-preserved
loop-at-preserved c =
    step c.args.text.now c.first_line-line.result.now _ c.loop-at.at c.loop-at.number c.loop-at.draft c.read_line.new.self c.loop-at.invariant
    (sym c.split_at.ensures.back ∙ c.first_line-line.ensures.cut)
    (c.first_line-line.ensures.some (omega (arith, c.loop-at-test.true, ap length c.split_at.ensures.back, length-drop c.loop-at.at c.args.text.now)))
    (subst (TakesLine c.loop-at.draft c.read_line.new.self c.first_line-line.result.now) c.if-not-branch.false c.in_ok-read_line.ensures)

pub returns-clause-only : goal.returns-clause-only
returns-clause-only c = λ orders are says.
    only_read c.args.text.now c.loop-at.at c.loop-at.number c.loop-at.draft orders c.loop-at.invariant (omega arith) are says
