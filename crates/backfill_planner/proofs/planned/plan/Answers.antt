use Rattle.std.proofs.Common.{rules, ◌≡◌, ◌<◌, ◌+◌, length, All, arith, ap, subst, ◌∙◌}
use Rattle.std.proofs.lemmas.Grind.{common_steps}
use Rattle.resource_profile.specs.Counts.{ticked, IsTickedUpTo}
use Rattle.backfill_planner.specs.declared.Placed.{Placed}
use Rattle.backfill_planner.specs.Placements.{AreParts}
use Rattle.backfill_planner.specs.Plans.{PlanningView, plan_of}
use Rattle.backfill_planner.proofs.Stepping.{ticked-more}
use Rattle.backfill_planner.proofs.planned.plan.Goals as goal

pub returns-in_err-planning-2-clause-steps_err : goal.returns-in_err-planning-2-clause-steps_err
returns-in_err-planning-2-clause-steps_err g c =
    let below : c.loop.counter < length c.args.ranked.items = grind (arith, common_steps) in
    let ticks : c.place_next.new.steps ≡ ticked c.args.steps.now (c.loop.counter + 1) = (rw c.loop.invariant.steps at c.place_next.ensures.steps) ∙ ticked-more c.args.steps.now c.loop.counter in
    let counted : IsTickedUpTo (length c.args.ranked.items) c.args.steps.now c.place_next.new.steps = record { times = c.loop.counter + 1; few = omega (arith, below); is = ticks } in
    search (rules, counted)

pub loop-preserved : goal.loop-preserved
loop-preserved g c =
    let below : c.loop.counter < length c.args.ranked.items = grind (arith, common_steps) in
    record {
      parts = c.in_ok-planning-2.ensures.next ∙ ap (λ (v : PlanningView). record { base = v.base; ranked = v.ranked; moment = v.moment; done = v.done + 1 }) c.loop.invariant.parts;
      few = omega (arith, below);
      steps = (rw c.loop.invariant.steps at c.place_next.ensures.steps) ∙ ticked-more c.args.steps.now c.loop.counter;
    }

pub returns-clause-apart : goal.returns-clause-apart
returns-clause-apart g c =
    subst (λ (v : PlanningView). All (λ (placed : Placed). AreParts v.base.rooms placed.parts) (plan_of v.base v.ranked v.moment)) c.loop.invariant.parts c.finish.ensures.apart
