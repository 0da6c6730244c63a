use Rattle.std.proofs.Common.{◌≡◌, ◌≤◌, length}
use Rattle.resource_profile.specs.Counts.{ticked}
use Rattle.backfill_planner.proofs.planned.plan.Given as goal

-- so many jobs are planned
abbrev pub invariant-loop : goal.invariant-loop
invariant-loop g l = record {
  parts : l.planning ≡ record { base = l.fn.base; ranked = l.fn.ranked.items; moment = l.fn.now; done = l.counter };
  few : l.counter ≤ length l.fn.ranked.items;
  steps : l.steps ≡ ticked l.fn.steps l.counter;
}
