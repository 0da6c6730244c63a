use Rattle.std.proofs.Common.{◌<◌, length, arith, ap}
use Rattle.plan_keeper.specs.Marks.{IsPast}
use Rattle.plan_keeper.proofs.Stepping.{turned-ok, turned-err, passed-err}
use Rattle.plan_keeper.proofs.both_plans.turn.Goals as goal

pub returns-then-is_there-clause-steps : goal.returns-then-is_there-clause-steps
returns-then-is_there-clause-steps g c = λ start before.
    let passed = c.args.plans.passed in
    turned-ok c.args.old.now passed.planning passed.index start c.args.steps.now c.pass_same.new.steps c.pass_same.result c.requires.passing.passed.index before c.pass_same.ensures.steps c.pass_same.ensures.index

pub returns-then-is_there-clause-steps_err : goal.returns-then-is_there-clause-steps_err
returns-then-is_there-clause-steps_err g c = λ start before.
    let passed = c.args.plans.passed in
    let below : passed.index < length passed.planning.ranked = omega (arith, c.if-passed-ranked.false, ap (λ some. length some) c.ranked-ranked.ensures.value) in
    turned-err c.args.old.now passed.planning passed.index start c.args.steps.now c.pass_same.new.steps c.pass_same.result c.requires.passing.passed.index below before c.pass_same.ensures.steps

pub returns-then-is_new-clause-steps : goal.returns-then-is_new-clause-steps
returns-then-is_new-clause-steps g c = λ start before.
    let passed = c.args.plans.passed in
    turned-ok c.args.old.now passed.planning passed.index start c.args.steps.now c.plan_new.new.steps c.plan_new.result c.requires.passing.passed.index before c.plan_new.ensures.steps c.plan_new.ensures.index

pub returns-then-is_new-clause-steps_err : goal.returns-then-is_new-clause-steps_err
returns-then-is_new-clause-steps_err g c = λ start before.
    let passed = c.args.plans.passed in
    let below : passed.index < length passed.planning.ranked = omega (arith, c.if-passed-ranked.false, ap (λ some. length some) c.ranked-ranked.ensures.value) in
    turned-err c.args.old.now passed.planning passed.index start c.args.steps.now c.plan_new.new.steps c.plan_new.result c.requires.passing.passed.index below before c.plan_new.ensures.steps

pub leave_out-requires-clause-gone : goal.leave_out-requires-clause-gone
leave_out-requires-clause-gone g c =
    let passed = c.args.plans.passed in
    let past : IsPast c.args.now c.ranked-then-before-ranked.result.now c.ranked-ranked.result.now passed.index passed.before = c.if-is_gone.ensures in
    rw (c.requires.now, c.ranked-then-before-ranked.ensures.value, c.ranked-ranked.ensures.value, c.requires.passing.passed.index) at past

pub returns-then-is_gone-clause-steps_err : goal.returns-then-is_gone-clause-steps_err
returns-then-is_gone-clause-steps_err g c = λ start before.
    let passed = c.args.plans.passed in
    let below : passed.index < length passed.planning.ranked = omega (arith, c.if-passed-ranked.false, ap (λ some. length some) c.ranked-ranked.ensures.value) in
    passed-err c.args.old.now passed.planning passed.index start c.args.steps.now c.leave_out.result below before
