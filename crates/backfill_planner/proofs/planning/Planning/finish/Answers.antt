use Rattle.std.proofs.Common.{◌≡◌, ◌++◌, length, subst, sym, All}
use Rattle.resource_profile.specs.Profiles.{AreWithin}
use Rattle.backfill_planner.specs.declared.Placed.{Placed}
use Rattle.backfill_planner.specs.Placements.{AreParts, StartsFit}
use Rattle.backfill_planner.specs.Plans.{PlanningView, plan_of, plan_holds_of}
use Rattle.backfill_planner.proofs.Settling.{all-planned}
use Rattle.backfill_planner.proofs.planning.Planning.finish.Goals as goal

pub returns-clause-within : goal.returns-clause-within
returns-clause-within c =
    let inside = c.self.inside in
    let all : inside.done ≡ length inside.ranked.items = subst (λ (v : PlanningView). v.done ≡ length v.ranked) (sym c.self.view_is) c.requires in
    let whole = all-planned c.lower_laws.ensures inside.base inside.ranked.items inside.moment inside.done inside.placements.items inside.counts.items inside.profile inside.searches.seen.items c.self.invariant all in
    subst (λ (v : PlanningView). AreWithin v.base.rooms (v.base.holds ++ plan_holds_of v.base v.ranked v.moment)) c.self.view_is whole.within

pub returns-clause-starts_fit : goal.returns-clause-starts_fit
returns-clause-starts_fit c =
    let inside = c.self.inside in
    let all : inside.done ≡ length inside.ranked.items = subst (λ (v : PlanningView). v.done ≡ length v.ranked) (sym c.self.view_is) c.requires in
    let whole = all-planned c.lower_laws.ensures inside.base inside.ranked.items inside.moment inside.done inside.placements.items inside.counts.items inside.profile inside.searches.seen.items c.self.invariant all in
    subst (λ (v : PlanningView). StartsFit v.base (plan_of v.base v.ranked v.moment) v.moment) c.self.view_is whole.starts_fit

pub returns-clause-apart : goal.returns-clause-apart
returns-clause-apart c =
    let inside = c.self.inside in
    let all : inside.done ≡ length inside.ranked.items = subst (λ (v : PlanningView). v.done ≡ length v.ranked) (sym c.self.view_is) c.requires in
    let whole = all-planned c.lower_laws.ensures inside.base inside.ranked.items inside.moment inside.done inside.placements.items inside.counts.items inside.profile inside.searches.seen.items c.self.invariant all in
    subst (λ (v : PlanningView). All (λ (placed : Placed). AreParts v.base.rooms placed.parts) (plan_of v.base v.ranked v.moment)) c.self.view_is whole.apart
