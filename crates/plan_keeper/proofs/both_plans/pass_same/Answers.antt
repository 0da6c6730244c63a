use Rattle.std.proofs.Common.{◌+◌, ap}
use Rattle.plan_keeper.proofs.Leaving.{has-same}
use Rattle.plan_keeper.proofs.both_plans.pass_same.Goals as goal

pub settle_there-requires-clause-index : goal.settle_there-requires-clause-index
settle_there-requires-clause-index g c = c.requires.passing.passed.index

pub settle_there-requires-clause-kept : goal.settle_there-requires-clause-kept
settle_there-requires-clause-kept g c = c.requires.passing.passed.has.kept

pub settle_again-requires-clause-is : goal.settle_again-requires-clause-is
settle_again-requires-clause-is g c = c.requires.passing.then

pub returns-clause-passing : goal.returns-clause-passing
returns-clause-passing g c =
    let old = c.args.old.now in
    let passed = c.args.plans.passed in
    let planning = passed.planning in
    let kept = passed.kept in
    let new_kept = c.settle_there.new.kept in
    record {
      then = c.in_ok-then.ensures;
      passed = record {
        index = rw c.in_ok-planning.ensures.next (ap (λ n. n + 1) c.requires.passing.passed.index);
        has = rw c.in_ok-planning.ensures.next (has-same old planning passed.before kept.same.seconds.items kept.no_freer.seconds.items new_kept.same.seconds.items new_kept.no_freer.seconds.items passed.level.nodes.items c.requires.passing.passed.has c.requires.there c.requires.more c.requires.is c.in_ok-planning.ensures.kept);
      };
    }
