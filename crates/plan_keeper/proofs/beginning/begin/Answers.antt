use Rattle.std.proofs.Common.{rules, ◌<◌, ◌+◌, ℕ, length, arith, refl, ap, ◌∙◌}
use Rattle.std.proofs.lemmas.Grind.{common_steps}
use Rattle.backfill_planner.specs.Plans.{PlanningView}
use Rattle.plan_keeper.specs.Turns.{HasStepped}
use Rattle.plan_keeper.proofs.Stepping.{stepped-none, stepped-more, stepped-all}
use Rattle.plan_keeper.proofs.beginning.begin.Goals as goal

pub loop-index-init : goal.loop-index-init
loop-index-init g c =
    let planning = c.args.planning in
    let from : ℕ → PlanningView = λ done. record { base = planning.base; ranked = planning.ranked; moment = planning.moment; done = done } in
    record {
      first = refl;
      parts = ap from c.requires.none;
      begun = c.in_ok-kept.ensures;
      stepped = stepped-none c.args.old.now planning.base planning.ranked planning.moment c.args.steps.now;
    }

pub returns-in_err-begun-clause-steps_err : goal.returns-in_err-begun-clause-steps_err
returns-in_err-begun-clause-steps_err g c =
    let old = c.args.old.now in
    let planning = c.args.planning in
    let index = c.loop-index.index in
    let was = c.loop-index.invariant in
    let more : HasStepped old planning.base planning.ranked planning.moment (index + 1) c.args.steps.now c.turn.new.steps = stepped-more old planning.base planning.ranked planning.moment index c.loop-index.begun.planning c.args.steps.now c.loop-index.steps c.turn.new.steps was.parts was.stepped c.turn.ensures.steps in
    let below : index < length planning.ranked = grind (arith, common_steps) in
    let all : HasStepped old planning.base planning.ranked planning.moment (length planning.ranked) c.args.steps.now c.turn.new.steps = stepped-all old planning.base planning.ranked planning.moment (index + 1) (length planning.ranked) c.args.steps.now c.turn.new.steps (omega (arith, below)) more in
    search (rules, all)

pub loop-index-preserved : goal.loop-index-preserved
loop-index-preserved g c =
    let old = c.args.old.now in
    let planning = c.args.planning in
    let was = c.loop-index.invariant in
    record {
      first = c.in_ok-begun.ensures.first ∙ ap (λ n. n + 1) was.first;
      parts = c.in_ok-begun.ensures.next ∙ ap (λ (v : PlanningView). record { base = v.base; ranked = v.ranked; moment = v.moment; done = v.done + 1 }) was.parts;
      begun = c.in_ok-begun.ensures.begun;
      stepped = stepped-more old planning.base planning.ranked planning.moment c.loop-index.index c.loop-index.begun.planning c.args.steps.now c.loop-index.steps c.turn.new.steps was.parts was.stepped c.turn.ensures.steps;
    }
