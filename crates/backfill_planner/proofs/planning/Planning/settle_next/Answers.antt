use Rattle.std.proofs.Common.{rules, ◌≡◌, ◌<◌, ◌++◌, ◌∷◌, [], length, subst, sym, ap, refl, ◌∙◌, get_or, All}
use Rattle.std.proofs.lemmas.List.{append-nil}
use Rattle.std.proofs.lemmas.List.Sorted.{IsPermutation-refl}
use Rattle.backfill_planner.specs.declared.job.PlanJob.{PlanJob}
use Rattle.backfill_planner.specs.Plans.{PlanningView, placement_of}
use Rattle.backfill_planner.specs.Lesser.{NoneBefore}
use Rattle.backfill_planner.specs.Searches.{IsSeen, bound_of}
use Rattle.backfill_planner.proofs.Settling.{next-free, next-planned}
use Rattle.backfill_planner.proofs.planning.Planning.settle_next.Goals as goal
use Rattle.backfill_planner.proofs.planning.Planning.settle_next.Goals.{in-Some+in_ok-hold+in_ok-push, in_default}

pub hold-requires-clause-start : goal.hold-requires-clause-start
hold-requires-clause-start c =
    let inside = c.self.inside in
    let ranked = inside.ranked.items in
    let job = c.index-job.result.now in
    let below : inside.done < length ranked = subst (λ (v : PlanningView). v.done < length v.ranked) (sym c.self.view_is) c.requires.more in
    let job_is : job ≡ get_or ranked inside.done job = c.index-job.ensures in
    let own : (d : PlanJob) → c.args.placed ≡ placement_of inside.base ranked inside.moment inside.done (get_or ranked inside.done d) = subst (λ (v : PlanningView). (d : PlanJob) → c.args.placed ≡ placement_of v.base v.ranked v.moment v.done (get_or v.ranked v.done d)) (sym c.self.view_is) c.requires.placed in
    let there : c.args.placed ≡ placement_of inside.base ranked inside.moment inside.done job = rw (← job_is) at (own job) in
    let free = next-free c.lower_laws.ensures inside.base ranked inside.moment inside.done inside.placements.items inside.counts.items inside.profile inside.searches.seen.items job c.in-Some.placed c.self.invariant c.self.invariant.low below job_is c.tell_plannable.ensures (sym c.in-Some.is ∙ there) in
    free.start

pub hold-requires-clause-free : goal.hold-requires-clause-free
hold-requires-clause-free c =
    let inside = c.self.inside in
    let ranked = inside.ranked.items in
    let job = c.index-job.result.now in
    let below : inside.done < length ranked = subst (λ (v : PlanningView). v.done < length v.ranked) (sym c.self.view_is) c.requires.more in
    let job_is : job ≡ get_or ranked inside.done job = c.index-job.ensures in
    let own : (d : PlanJob) → c.args.placed ≡ placement_of inside.base ranked inside.moment inside.done (get_or ranked inside.done d) = subst (λ (v : PlanningView). (d : PlanJob) → c.args.placed ≡ placement_of v.base v.ranked v.moment v.done (get_or v.ranked v.done d)) (sym c.self.view_is) c.requires.placed in
    let there : c.args.placed ≡ placement_of inside.base ranked inside.moment inside.done job = rw (← job_is) at (own job) in
    let free = next-free c.lower_laws.ensures inside.base ranked inside.moment inside.done inside.placements.items inside.counts.items inside.profile inside.searches.seen.items job c.in-Some.placed c.self.invariant c.self.invariant.low below job_is c.tell_plannable.ensures (sym c.in-Some.is ∙ there) in
    free.free.free

pub hold-requires-clause-apart : goal.hold-requires-clause-apart
hold-requires-clause-apart c =
    let inside = c.self.inside in
    let ranked = inside.ranked.items in
    let job = c.index-job.result.now in
    let below : inside.done < length ranked = subst (λ (v : PlanningView). v.done < length v.ranked) (sym c.self.view_is) c.requires.more in
    let job_is : job ≡ get_or ranked inside.done job = c.index-job.ensures in
    let own : (d : PlanJob) → c.args.placed ≡ placement_of inside.base ranked inside.moment inside.done (get_or ranked inside.done d) = subst (λ (v : PlanningView). (d : PlanJob) → c.args.placed ≡ placement_of v.base v.ranked v.moment v.done (get_or v.ranked v.done d)) (sym c.self.view_is) c.requires.placed in
    let there : c.args.placed ≡ placement_of inside.base ranked inside.moment inside.done job = rw (← job_is) at (own job) in
    let free = next-free c.lower_laws.ensures inside.base ranked inside.moment inside.done inside.placements.items inside.counts.items inside.profile inside.searches.seen.items job c.in-Some.placed c.self.invariant c.self.invariant.low below job_is c.tell_plannable.ensures (sym c.in-Some.is ∙ there) in
    free.free.apart

pub invariant_of-result : goal.invariant_of-result
invariant_of-result c =
    let inside = c.self.inside in
    let ranked = inside.ranked.items in
    let job = c.index-job.result.now in
    let below : inside.done < length ranked = subst (λ (v : PlanningView). v.done < length v.ranked) (sym c.self.view_is) c.requires.more in
    let job_is : job ≡ get_or ranked inside.done job = c.index-job.ensures in
    let own : (d : PlanJob) → c.args.placed ≡ placement_of inside.base ranked inside.moment inside.done (get_or ranked inside.done d) = subst (λ (v : PlanningView). (d : PlanJob) → c.args.placed ≡ placement_of v.base v.ranked v.moment v.done (get_or v.ranked v.done d)) (sym c.self.view_is) c.requires.placed in
    let there : c.args.placed ≡ placement_of inside.base ranked inside.moment inside.done job = rw (← job_is) at (own job) in
    let counts_are : c.push-2.new.self.items ≡ inside.counts.items ++ length c.match-placed.placements.items ∷ [] = search rules in
    let seen : ((d : PlanJob) → NoneBefore inside.base.rooms inside.profile.holds (get_or ranked inside.done d) inside.moment (bound_of c.args.placed inside.base.horizon)) → All (IsSeen inside.base.rooms inside.profile.holds ranked inside.moment) inside.searches.seen.items = λ none. c.self.invariant.seen in
    elim c.match-placed.branch [
      | in-Some+in_ok-hold+in_ok-push w ↦
          next-planned c.lower_laws.ensures inside.base ranked inside.moment inside.done inside.placements.items inside.counts.items inside.profile inside.searches.seen.items job c.args.placed
          c.match-placed.placements.items c.push-2.new.self.items c.match-placed.profile inside.searches.seen.items c.self.invariant below job_is c.tell_plannable.ensures there
          (rw (w.in-Some.is, w.placements-is) w.in_ok-push.ensures.items) counts_are (rw w.profile-is w.in_ok-hold.ensures.rooms) (rw (w.in-Some.is, w.profile-is) w.in_ok-hold.ensures.holds) seen
      | in_default w ↦
          next-planned c.lower_laws.ensures inside.base ranked inside.moment inside.done inside.placements.items inside.counts.items inside.profile inside.searches.seen.items job c.args.placed
          c.match-placed.placements.items c.push-2.new.self.items c.match-placed.profile inside.searches.seen.items c.self.invariant below job_is c.tell_plannable.ensures there
          (rw (w.in_default.is, w.placements-is) (sym (append-nil inside.placements.items))) counts_are (rw w.profile-is refl) (rw (w.in_default.is, w.profile-is, append-nil) (IsPermutation-refl inside.profile.holds)) seen
    ]
