use Rattle.std.proofs.Common.{◌≡◌, All, arith, subst}
use Rattle.std.specs.Prelude.{OnOk}
use Rattle.std.proofs.lemmas.Grind.{common_steps}
use Rattle.backfill_planner.specs.declared.Placed.{Placed}
use Rattle.backfill_planner.specs.Placements.{AreParts}
use Rattle.backfill_planner.specs.Plans.{PlannedView, plan_of}
use Rattle.plan_keeper.proofs.replanning.replan.Goals as goal

pub returns-then-is_made_of-clause-apart : goal.returns-then-is_made_of-clause-apart
returns-then-is_made_of-clause-apart g c =
    let told = c.is_made_of.ensures.0 c.if-is_made_of.true in
    let is : ◌≡◌ {A = PlannedView} c.args.old.now (record { base = c.args.base; ranked = c.args.ranked.items; moment = c.args.now }) = grind (arith, common_steps, told) in
    subst (λ (view : PlannedView). OnOk c.plan_again.result (All (λ (placed : Placed). AreParts view.base.rooms placed.parts) (plan_of view.base view.ranked view.moment))) is c.plan_again.ensures.apart
