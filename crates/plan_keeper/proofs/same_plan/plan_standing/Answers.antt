use Rattle.std.proofs.Common.{rules, ◌++◌, All}
use Rattle.resource_profile.specs.Profiles.{AreWithin}
use Rattle.backfill_planner.specs.declared.Placed.{Placed}
use Rattle.backfill_planner.specs.Placements.{IsPlannable, AreParts}
use Rattle.backfill_planner.specs.Plans.{plan_of, plan_holds_of}
use Rattle.plan_keeper.proofs.same_plan.plan_standing.Goals as goal

pub returns-clause-within : goal.returns-clause-within
returns-clause-within c =
    let base = c.args.base in
    let ranked = c.args.ranked.items in
    let jobs : All IsPlannable ranked = rw c.as_slice.ensures.value at c.tell_jobs.ensures in
    let all : AreWithin base.rooms (base.holds ++ plan_holds_of base ranked c.args.now) = c.plans_stay_within.ensures base ranked c.args.now c.tell_base.ensures.within c.tell_base.ensures.low c.requires.nodes jobs in
    search (rules, all)

pub returns-clause-apart : goal.returns-clause-apart
returns-clause-apart c =
    let base = c.args.base in
    let ranked = c.args.ranked.items in
    let jobs : All IsPlannable ranked = rw c.as_slice.ensures.value at c.tell_jobs.ensures in
    let all : All (λ (placed : Placed). AreParts base.rooms placed.parts) (plan_of base ranked c.args.now) = c.parts_are_apart.ensures.parts base ranked c.args.now c.tell_base.ensures.low c.requires.nodes jobs in
    search (rules, all)
