use Rattle.std.proofs.Common.{◌≡◌, subst, sym, ap, ◌∙◌, get_or, All}
use Rattle.backfill_planner.specs.declared.job.PlanJob.{PlanJob}
use Rattle.backfill_planner.specs.Bases.{BaseView}
use Rattle.backfill_planner.specs.Plans.{PlanningView, placement_of}
use Rattle.backfill_planner.specs.Lesser.{NoneBefore}
use Rattle.backfill_planner.specs.Searches.{IsSeen, bound_of}
use Rattle.backfill_planner.proofs.Settling.{searched-seen}
use Rattle.backfill_planner.proofs.planning.Planning.settle_searched.Goals as goal

pub invariant_of-planning : goal.invariant_of-planning
invariant_of-planning c =
    let inside = c.self.inside in
    let ranked = inside.ranked.items in
    let own : (d : PlanJob) → c.args.placed ≡ placement_of inside.base ranked inside.moment inside.done (get_or ranked inside.done d) = subst (λ (v : PlanningView). (d : PlanJob) → c.args.placed ≡ placement_of v.base v.ranked v.moment v.done (get_or v.ranked v.done d)) (sym c.self.view_is) c.requires.placed in
    let horizon_is : c.base.inside.horizon ≡ inside.base.horizon = ap (λ (b : BaseView). b.horizon) c.base.view_is in
    let bound_is : c.bound_of-bound.result ≡ bound_of c.args.placed inside.base.horizon = c.bound_of-bound.ensures ∙ ap (λ horizon. bound_of c.args.placed horizon) horizon_is in
    let seen : ((d : PlanJob) → NoneBefore inside.base.rooms inside.profile.holds (get_or ranked inside.done d) inside.moment (bound_of c.args.placed inside.base.horizon)) → All (IsSeen inside.base.rooms inside.profile.holds ranked inside.moment) c.add.new.self.seen.items = λ none.
    rw c.as_slice.ensures.value at (c.add.ensures inside.base.rooms inside.profile.holds (rw c.as_slice.ensures.value c.self.invariant.seen) (rw (c.as_slice.ensures.value, bound_is) none)) in
    searched-seen c.lower_laws.ensures inside.base ranked inside.moment inside.done inside.placements.items inside.counts.items inside.profile inside.searches.seen.items c.args.placed c.add.new.self.seen.items c.self.invariant own seen
