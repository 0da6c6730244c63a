use Rattle.std.proofs.Common.{◌≡◌, All, ap, subst, ◌∙◌}
use Rattle.std.specs.Prelude.{OnOk}
use Rattle.backfill_planner.specs.declared.Placed.{Placed}
use Rattle.backfill_planner.specs.Placements.{AreParts}
use Rattle.backfill_planner.specs.Plans.{PlanningView, plan_of}
use Rattle.plan_keeper.proofs.replanning.plan_over.Goals as goal

pub returns-clause-apart : goal.returns-clause-apart
returns-clause-apart g c =
    let first = c.in_ok-begun.begun.first in
    let is : c.in_ok-begun.begun.planning ≡ record { base = c.args.base; ranked = c.args.ranked.items; moment = c.args.now; done = first } = c.in_ok-begun.ensures.parts ∙ ap (λ (v : PlanningView). record { base = v.base; ranked = v.ranked; moment = v.moment; done = first }) c.in_ok-planning.ensures in
    subst (λ (v : PlanningView). OnOk c.plan_rest.result (All (λ (placed : Placed). AreParts v.base.rooms placed.parts) (plan_of v.base v.ranked v.moment))) is c.plan_rest.ensures.apart
