use Rattle.std.proofs.Common.{◌≡◌, ◌+◌, ◌<◌, length, All, ap, subst, sym, ◌∙◌, get_or}
use Rattle.std.proofs.lemmas.List.{get_or_default}
use Rattle.backfill_planner.specs.declared.job.PlanJob.{PlanJob}
use Rattle.backfill_planner.specs.Placements.{IsOnRooms}
use Rattle.backfill_planner.specs.Plans.{holds_before}
use Rattle.plan_keeper.proofs.Leaving.{has-new}
use Rattle.plan_keeper.proofs.Lowering.{parts-there}
use Rattle.plan_keeper.proofs.Passed.{new-not-steady}
use Rattle.plan_keeper.proofs.Times.{there}
use Rattle.plan_keeper.proofs.Turning.{stepped-anew}
use Rattle.plan_keeper.proofs.both_plans.plan_new.Goals as goal

pub place_new-requires : goal.place_new-requires
place_new-requires g c =
    let planning = c.args.plans.passed.planning in
    let at = there planning.ranked planning.done c.requires.more in
    let nodes : All (λ node. node < length planning.base.rooms) (get_or planning.ranked planning.done at.job).nodes =
    subst (λ some. All (IsOnRooms planning.base.rooms) some) c.ranked.ensures.value c.ranked.ensures.nodes planning.done at.job c.requires.more in
    rw c.requires.passing.passed.has.kept.long (parts-there c.planner_laws.ensures planning.base.rooms (holds_before planning.base planning.ranked planning.moment planning.done) (get_or planning.ranked planning.done at.job) planning.moment planning.base.horizon (length planning.base.rooms) c.in_ok-found.found.placed (sym (c.in_ok-found.ensures.placed at.job)) nodes)

pub returns-clause-passing : goal.returns-clause-passing
returns-clause-passing g c =
    let old = c.args.old.now in
    let passed = c.args.plans.passed in
    let planning = passed.planning in
    let same = passed.kept.same.seconds.items in
    let no_freer = passed.kept.no_freer.seconds.items in
    let new_kept = c.place_new.new.self in
    let job = c.index-ranked-index.result in
    let is : (d : PlanJob) → get_or planning.ranked planning.done d ≡ job = λ d.
    get_or_default planning.ranked planning.done d job c.requires.more ∙ sym (rw (c.ranked.ensures.value, c.requires.passing.passed.index) at c.index-ranked-index.is) in
    record {
      then = c.requires.passing.then;
      passed = record {
        index = rw c.in_ok-planning.ensures (ap (λ n. n + 1) c.requires.passing.passed.index);
        has = rw (c.in_ok-planning.ensures, c.place_new.ensures.no_freer) (has-new c.planner_laws.ensures old planning passed.before same no_freer new_kept.same.seconds.items passed.level.nodes.items c.pass.new.self.nodes.items job c.in_ok-found.found.placed c.requires.passing.passed.has c.requires.more is c.requires.new c.in_ok-found.ensures.placed c.place_new.ensures.same c.pass.ensures);
      };
    }

pub returns-clause-steps : goal.returns-clause-steps
returns-clause-steps g c =
    let old = c.args.old.now in
    let passed = c.args.plans.passed in
    let planning = passed.planning in
    stepped-anew old planning c.args.steps.now c.find_anew.new.steps
    (new-not-steady old planning.base planning.ranked planning.moment passed.before planning.done c.requires.passing.passed.has.passed c.requires.more c.requires.new)
    c.find_anew.ensures.steps

pub returns-in_err-found-clause-steps : goal.returns-in_err-found-clause-steps
returns-in_err-found-clause-steps g c =
    let old = c.args.old.now in
    let passed = c.args.plans.passed in
    let planning = passed.planning in
    stepped-anew old planning c.args.steps.now c.find_anew.new.steps
    (new-not-steady old planning.base planning.ranked planning.moment passed.before planning.done c.requires.passing.passed.has.passed c.requires.more c.requires.new)
    c.find_anew.ensures.steps

pub returns-in_err-planning-clause-steps : goal.returns-in_err-planning-clause-steps
returns-in_err-planning-clause-steps g c =
    let old = c.args.old.now in
    let passed = c.args.plans.passed in
    let planning = passed.planning in
    stepped-anew old planning c.args.steps.now c.find_anew.new.steps
    (new-not-steady old planning.base planning.ranked planning.moment passed.before planning.done c.requires.passing.passed.has.passed c.requires.more c.requires.new)
    c.find_anew.ensures.steps
