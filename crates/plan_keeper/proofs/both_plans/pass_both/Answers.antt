use Rattle.std.proofs.Common.{◌≤◌, length, arith, ap, ◌∙◌}
use Rattle.backfill_planner.specs.Plans.{PlanningView}
use Rattle.plan_keeper.specs.Turns.{HasStepped}
use Rattle.plan_keeper.proofs.Stepping.{on-err, stepped-all, turned-more}
use Rattle.plan_keeper.proofs.both_plans.pass_both.Goals as goal

pub returns-in_err-places-clause-steps_err : goal.returns-in_err-places-clause-steps_err
returns-in_err-places-clause-steps_err g c = λ start before.
    let old = c.args.old.now in
    let planning = c.args.passed.planning in
    let index = c.args.passed.index in
    let few : index ≤ length planning.ranked = omega (arith, c.requires.passed.index, c.requires.passed.has.passed.few_new) in
    on-err (HasStepped old planning.base planning.ranked planning.moment (length planning.ranked) start c.args.steps.now) c.from_residual.result (stepped-all old planning.base planning.ranked planning.moment index (length planning.ranked) start c.args.steps.now few before)

pub returns-in_err-then-clause-steps_err : goal.returns-in_err-then-clause-steps_err
returns-in_err-then-clause-steps_err g c = λ start before.
    let old = c.args.old.now in
    let planning = c.args.passed.planning in
    let index = c.args.passed.index in
    let few : index ≤ length planning.ranked = omega (arith, c.requires.passed.index, c.requires.passed.has.passed.few_new) in
    on-err (HasStepped old planning.base planning.ranked planning.moment (length planning.ranked) start c.args.steps.now) c.from_residual-in_err-then.result (stepped-all old planning.base planning.ranked planning.moment index (length planning.ranked) start c.args.steps.now few before)

pub returns-then-plans-index-clause-steps : goal.returns-then-plans-index-clause-steps
returns-then-plans-index-clause-steps g c = λ start before.
    let planning = c.args.passed.planning in
    let was = c.loop.invariant in
    turned-more c.args.old.now planning.base planning.ranked planning.moment c.loop.plans.passed.index c.in_ok-plans.plans.passed.index start c.loop.steps c.turn.new.steps c.loop.plans.passed.planning was.parts (was.steps start before) (c.in_ok-plans.ensures.steps start)

pub loop-preserved : goal.loop-preserved
loop-preserved g c =
    let planning = c.args.passed.planning in
    let was = c.loop.invariant in
    let index = c.in_ok-plans.plans.passed.index in
    record {
      passing = c.in_ok-plans.ensures.passing;
      parts = c.in_ok-plans.ensures.next ∙ ap (λ (v : PlanningView). record { base = v.base; ranked = v.ranked; moment = v.moment; done = index }) was.parts;
      steps = λ start before. turned-more c.args.old.now planning.base planning.ranked planning.moment c.loop.plans.passed.index index start c.loop.steps c.turn.new.steps c.loop.plans.passed.planning was.parts (was.steps start before) (c.in_ok-plans.ensures.steps start);
    }
