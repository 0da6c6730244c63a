use Rattle.std.proofs.Common.{◌≤◌, length, All, arith, ap, subst, sym, ◌∙◌}
use Rattle.std.specs.Prelude.{OnOk}
use Rattle.backfill_planner.specs.declared.Placed.{Placed}
use Rattle.backfill_planner.specs.Placements.{AreParts}
use Rattle.backfill_planner.specs.Plans.{PlanningView, plan_of}
use Rattle.plan_keeper.specs.Turns.{HasStepped}
use Rattle.plan_keeper.proofs.Stepping.{stepped-all}
use Rattle.plan_keeper.proofs.replanning.plan_rest.Goals as goal

pub returns-in_err-passed-clause-steps : goal.returns-in_err-passed-clause-steps
returns-in_err-passed-clause-steps g c = λ start before.
    let planning = c.args.begun.planning in
    let few : c.args.begun.first ≤ length planning.ranked = omega (arith, c.requires.first, c.requires.begun.alike.few_new) in
    stepped-all c.args.old.now planning.base planning.ranked planning.moment c.args.begun.first (length planning.ranked) start c.args.steps.now few before

pub returns-then-ends-clause-apart : goal.returns-then-ends-clause-apart
returns-then-ends-clause-apart g c =
    subst (λ (v : PlanningView). OnOk c.plan_behind.result (All (λ (placed : Placed). AreParts v.base.rooms placed.parts) (plan_of v.base v.ranked v.moment))) c.in_ok-passed.ensures.planning c.plan_behind.ensures.apart

pub returns-then-ends-clause-steps : goal.returns-then-ends-clause-steps
returns-then-ends-clause-steps g c = λ start before.
    let old = c.args.old.now in
    let passed = c.in_ok-passed.passed in
    let planning = passed.planning in
    let is = c.in_ok-passed.ensures.planning in
    let first : HasStepped old planning.base planning.ranked planning.moment passed.index start c.args.steps.now =
    rw c.in_ok-passed.ensures.index (subst (λ (v : PlanningView). HasStepped old v.base v.ranked v.moment c.args.begun.first start c.args.steps.now) (sym is) before) in
    subst (λ (v : PlanningView). HasStepped old v.base v.ranked v.moment (length v.ranked) start c.plan_behind.new.steps) is (c.plan_behind.ensures.steps start first)

pub returns-clause-apart : goal.returns-clause-apart
returns-clause-apart g c =
    let index = c.in_ok-passed-2.passed.index in
    let is = c.in_ok-passed-2.ensures.next ∙ ap (λ (v : PlanningView). record { base = v.base; ranked = v.ranked; moment = v.moment; done = index }) c.in_ok-passed.ensures.planning in
    subst (λ (v : PlanningView). OnOk c.plan_behind-2.result (All (λ (placed : Placed). AreParts v.base.rooms placed.parts) (plan_of v.base v.ranked v.moment))) is c.plan_behind-2.ensures.apart

pub returns-clause-steps : goal.returns-clause-steps
returns-clause-steps g c = λ start before.
    let old = c.args.old.now in
    let passed = c.in_ok-passed.passed in
    let planning = passed.planning in
    let index = c.in_ok-passed-2.passed.index in
    let first : HasStepped old planning.base planning.ranked planning.moment passed.index start c.args.steps.now =
    rw c.in_ok-passed.ensures.index (subst (λ (v : PlanningView). HasStepped old v.base v.ranked v.moment c.args.begun.first start c.args.steps.now) (sym c.in_ok-passed.ensures.planning) before) in
    let both = subst (λ (v : PlanningView). HasStepped old v.base v.ranked v.moment index start c.pass_both.new.steps) (sym c.in_ok-passed-2.ensures.next) (c.in_ok-passed-2.ensures.steps start first) in
    let is = c.in_ok-passed-2.ensures.next ∙ ap (λ (v : PlanningView). record { base = v.base; ranked = v.ranked; moment = v.moment; done = index }) c.in_ok-passed.ensures.planning in
    subst (λ (v : PlanningView). HasStepped old v.base v.ranked v.moment (length v.ranked) start c.plan_behind-2.new.steps) is (c.plan_behind-2.ensures.steps start both)
