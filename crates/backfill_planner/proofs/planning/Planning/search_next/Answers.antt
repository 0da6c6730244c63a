use Rattle.std.proofs.Common.{◌≡◌, ◌<◌, length, subst, sym, ◌∙◌, get_or}
use Rattle.std.proofs.lemmas.List.{get_or_default}
use Rattle.backfill_planner.specs.declared.job.PlanJob.{PlanJob}
use Rattle.backfill_planner.specs.Lesser.{NoneBefore}
use Rattle.backfill_planner.specs.Plans.{PlanningView, holds_before, placement_of}
use Rattle.backfill_planner.proofs.Beside.{placed-permuted}
use Rattle.backfill_planner.proofs.Settling.{none-in-profile}
use Rattle.backfill_planner.proofs.planning.Planning.search_next.Goals as goal

pub returns-clause-placed : goal.returns-clause-placed
returns-clause-placed g c = λ d.
    let inside = c.self.inside in
    let ranked = inside.ranked.items in
    let job = c.index-job.result.now in
    let below = subst (λ (v : PlanningView). v.done < length v.ranked) (sym c.self.view_is) c.requires.more in
    let job_is : get_or ranked inside.done d ≡ job = get_or_default ranked inside.done d job below ∙ sym c.index-job.ensures in
    let known : (d : PlanJob) → NoneBefore inside.base.rooms (holds_before inside.base ranked inside.moment inside.done) (get_or ranked inside.done d) inside.moment c.args.from = subst (λ (v : PlanningView). (d : PlanJob) → NoneBefore v.base.rooms (holds_before v.base v.ranked v.moment v.done) (get_or v.ranked v.done d) v.moment c.args.from) (sym c.self.view_is) c.requires.none in
    let none = none-in-profile inside.base ranked inside.moment inside.done inside.placements.items inside.counts.items inside.profile inside.searches.seen.items job c.args.from c.self.invariant (rw job_is at (known d)) in
    let both : NoneBefore inside.base.rooms inside.profile.holds job inside.moment c.shown_from-begin.result = c.shown_from-begin.ensures.none inside.base.rooms (rw c.as_slice.ensures.value c.self.invariant.seen) none in
    let found = c.in_ok-placed.ensures.placed both in
    let there : c.in_ok-placed.placed ≡ placement_of inside.base ranked inside.moment inside.done (get_or ranked inside.done d) = rw job_is (found ∙ sym (placed-permuted inside.base.rooms (holds_before inside.base ranked inside.moment inside.done) inside.profile.holds job inside.moment inside.base.horizon c.self.invariant.held)) in
    subst (λ (v : PlanningView). c.in_ok-placed.placed ≡ placement_of v.base v.ranked v.moment v.done (get_or v.ranked v.done d)) c.self.view_is there
