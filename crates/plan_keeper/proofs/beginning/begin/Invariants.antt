use Rattle.std.proofs.Common.{◌≡◌}
use Rattle.plan_keeper.specs.Kept.{HasBegun}
use Rattle.plan_keeper.specs.Turns.{HasStepped}
use Rattle.plan_keeper.proofs.beginning.begin.Given as goal

-- so many jobs are planned, which both lists have there, for a step at most each, and none for a steady one
abbrev pub invariant-loop-index : goal.invariant-loop-index
invariant-loop-index g l = record {
  first : l.begun.first ≡ l.index;
  parts : l.begun.planning ≡ record { base = l.fn.planning.base; ranked = l.fn.planning.ranked; moment = l.fn.planning.moment; done = l.index };
  begun : HasBegun l.fn.old l.begun.planning l.begun.kept.same.seconds.items l.begun.kept.no_freer.seconds.items;
  stepped : HasStepped l.fn.old l.fn.planning.base l.fn.planning.ranked l.fn.planning.moment l.index l.fn.steps l.steps;
}
