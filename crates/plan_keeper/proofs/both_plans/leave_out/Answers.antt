use Rattle.std.proofs.Common.{◌≡◌, ◌+◌, subst, sym, ◌∙◌, get_or}
use Rattle.std.specs.Prelude.{option_copied}
use Rattle.std.proofs.lemmas.List.{get_or_default}
use Rattle.backfill_planner.specs.declared.job.PlanJob.{PlanJob}
use Rattle.backfill_planner.specs.Plans.{PlanningView}
use Rattle.plan_keeper.specs.Kept.{AreCountedAnew}
use Rattle.plan_keeper.specs.Passing.{held_by, made_to, parts_of}
use Rattle.plan_keeper.proofs.Leaving.{has-gone}
use Rattle.plan_keeper.proofs.both_plans.leave_out.Goals as goal

pub settle_again-requires-clause-is : goal.settle_again-requires-clause-is
settle_again-requires-clause-is c = c.requires.passing.then

pub count_again-requires-clause-long : goal.count_again-requires-clause-long
count_again-requires-clause-long c = c.requires.passing.passed.has.kept.long

pub count_again-requires-clause-long_no_freer : goal.count_again-requires-clause-long_no_freer
count_again-requires-clause-long_no_freer c = c.requires.passing.passed.has.kept.long_no_freer

pub returns-clause-passing : goal.returns-clause-passing
returns-clause-passing c =
    let old = c.args.old.now in
    let passed = c.args.plans.passed in
    let planning = passed.planning in
    let place = passed.before in
    let same = passed.kept.same.seconds.items in
    let no_freer = passed.kept.no_freer.seconds.items in
    let new_same = c.count_again.new.kept.same.seconds.items in
    let new_no_freer = c.count_again.new.kept.no_freer.seconds.items in
    let placed = option_copied c.placement_of.result in
    let job = c.index-ranked-before.result in
    let is : (d : PlanJob) → get_or old.ranked place d ≡ job = λ d.
    get_or_default old.ranked place d job c.requires.there ∙ sym (rw c.ranked.ensures.value at c.index-ranked-before.is) in
    let counted_then : AreCountedAnew (held_by (made_to old (place + 1))) (held_by planning) c.args.now (parts_of placed) same no_freer new_same new_no_freer =
    subst (λ (then : PlanningView). AreCountedAnew (held_by then) (held_by planning) c.args.now (parts_of placed) same no_freer new_same new_no_freer) c.in_ok-then.ensures c.count_again.ensures in
    let counted : AreCountedAnew (held_by (made_to old (place + 1))) (held_by planning) planning.moment (parts_of placed) same no_freer new_same new_no_freer = rw c.requires.now at counted_then in
    record {
      then = c.in_ok-then.ensures;
      passed = record {
        index = c.requires.passing.passed.index;
        has = has-gone c.planner_laws.ensures old planning place same no_freer new_same new_no_freer passed.level.nodes.items c.pass.new.self.nodes.items job placed c.requires.passing.passed.has c.requires.there is c.requires.gone c.placement_of.ensures counted c.pass.ensures;
      };
    }
