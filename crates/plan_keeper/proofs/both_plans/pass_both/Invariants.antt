use Rattle.std.proofs.Common.{◌≡◌, ℕ}
use Rattle.plan_keeper.specs.Passing.{ArePassing}
use Rattle.plan_keeper.specs.Turns.{HasStepped}
use Rattle.plan_keeper.proofs.both_plans.pass_both.Given as goal

-- both lists are passed up to some place, for a step at most for each job planned, and none for a steady one
abbrev pub invariant-loop : goal.invariant-loop
invariant-loop g l = record {
  passing : ArePassing l.fn.old l.plans;
  parts : l.plans.passed.planning ≡ record { base = l.fn.passed.planning.base; ranked = l.fn.passed.planning.ranked; moment = l.fn.passed.planning.moment; done = l.plans.passed.index };
  steps : (start : ℕ) → HasStepped l.fn.old l.fn.passed.planning.base l.fn.passed.planning.ranked l.fn.passed.planning.moment l.fn.passed.index start l.fn.steps → HasStepped l.fn.old l.fn.passed.planning.base l.fn.passed.planning.ranked l.fn.passed.planning.moment l.plans.passed.index start l.steps;
}
