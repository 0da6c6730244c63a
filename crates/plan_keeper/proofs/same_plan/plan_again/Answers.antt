use Rattle.std.proofs.Common.{rules, ◌≤◌, ◌++◌, All, subst}
use Rattle.plain_data.specs.declared.seconds.TheConstants.{LAST_START}
use Rattle.resource_profile.specs.Profiles.{AreWithin}
use Rattle.backfill_planner.specs.declared.Placed.{Placed}
use Rattle.backfill_planner.specs.Bases.{BaseView}
use Rattle.backfill_planner.specs.Placements.{IsOnRooms, IsPlannable, AreParts}
use Rattle.backfill_planner.specs.Plans.{plan_of, plan_holds_of}
use Rattle.plan_keeper.proofs.same_plan.plan_again.Goals as goal

pub returns-clause-within : goal.returns-clause-within
returns-clause-within c =
    let old = c.args.old.now in
    let within : AreWithin old.base.rooms old.base.holds = subst (λ (b : BaseView). AreWithin b.rooms b.holds) c.base.ensures c.tell_base.ensures.within in
    let low : old.base.horizon ≤ LAST_START = subst (λ (b : BaseView). b.horizon ≤ LAST_START) c.base.ensures c.tell_base.ensures.low in
    let nodes : All (IsOnRooms old.base.rooms) old.ranked = subst (λ some. All (IsOnRooms old.base.rooms) some) c.ranked.ensures.value c.ranked.ensures.nodes in
    let jobs : All IsPlannable old.ranked = subst (λ some. All IsPlannable some) c.ranked.ensures.value c.tell_jobs.ensures in
    let all : AreWithin old.base.rooms (old.base.holds ++ plan_holds_of old.base old.ranked old.moment) = c.plans_stay_within.ensures old.base old.ranked old.moment within low nodes jobs in
    search (rules, all)

pub returns-clause-apart : goal.returns-clause-apart
returns-clause-apart c =
    let old = c.args.old.now in
    let low : old.base.horizon ≤ LAST_START = subst (λ (b : BaseView). b.horizon ≤ LAST_START) c.base.ensures c.tell_base.ensures.low in
    let nodes : All (IsOnRooms old.base.rooms) old.ranked = subst (λ some. All (IsOnRooms old.base.rooms) some) c.ranked.ensures.value c.ranked.ensures.nodes in
    let jobs : All IsPlannable old.ranked = subst (λ some. All IsPlannable some) c.ranked.ensures.value c.tell_jobs.ensures in
    let all : All (λ (placed : Placed). AreParts old.base.rooms placed.parts) (plan_of old.base old.ranked old.moment) = c.parts_are_apart.ensures.parts old.base old.ranked old.moment low nodes jobs in
    search (rules, all)
