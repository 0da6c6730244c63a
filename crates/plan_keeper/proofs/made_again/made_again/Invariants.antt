use Rattle.std.proofs.Common.{◌≡◌}
use Rattle.plan_keeper.proofs.made_again.made_again.Given as goal

-- so many jobs are planned again
abbrev pub invariant-loop-index : goal.invariant-loop-index
invariant-loop-index l = l.then ≡ record { base = l.fn.old.base; ranked = l.fn.old.ranked; moment = l.fn.old.moment; done = l.index }
