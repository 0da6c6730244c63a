use Rattle.plan_keeper.specs.Unmoved.{AreStanding}
use Rattle.plan_keeper.proofs.unmoved.pass_all.Given as goal

-- so many jobs of the old list are passed
abbrev pub invariant-loop-before : goal.invariant-loop-before
invariant-loop-before l = AreStanding l.old l.base l.ranked l.now l.before l.standing.index l.standing.counts.items l.standing.is_quiet
