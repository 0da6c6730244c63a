use Rattle.std.proofs.Common.{◌≡◌, ℕ, length}
use Rattle.plan_keeper.specs.Marks.{met_from, AreCounts, AreMarks}
use Rattle.plan_keeper.specs.Turns.{HasStepped}
use Rattle.plan_keeper.proofs.replanning.plan_behind.Given as goal

-- so many jobs are planned, for a step at most each, and none for a steady one
abbrev pub invariant-loop-index : goal.invariant-loop-index
invariant-loop-index g l = record {
  parts : l.planning ≡ record { base = l.fn.passed.planning.base; ranked = l.fn.passed.planning.ranked; moment = l.fn.passed.planning.moment; done = l.index };
  marks : AreMarks l.fn.old l.fn.passed.planning.base l.fn.passed.planning.ranked l.fn.passed.planning.moment l.index l.marks.unchanged.nodes.items (met_from l.list.first l.marks.met.items);
  counts : AreCounts l.fn.old.ranked l.fn.passed.planning.ranked l.list.first l.index (length l.fn.passed.planning.base.rooms) l.marks.unchanged.nodes.items l.marks.counts.items l.marks.met.items;
  steps : (start : ℕ) → HasStepped l.fn.old l.fn.passed.planning.base l.fn.passed.planning.ranked l.fn.passed.planning.moment l.fn.passed.index start l.fn.steps → HasStepped l.fn.old l.fn.passed.planning.base l.fn.passed.planning.ranked l.fn.passed.planning.moment l.index start l.steps;
}
