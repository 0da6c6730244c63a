use Rattle.std.proofs.Common.{◌≤◌, length}
use Rattle.plan_keeper.specs.Steady.{is_ahead}
use Rattle.plan_keeper.proofs.Walking.{AreSameFrom}
use Rattle.plan_keeper.proofs.same_times.are_same_behind.Given as goal

-- those so far have met their like
abbrev pub invariant-loop-time : goal.invariant-loop-time
invariant-loop-time l = record {
  within : l.place ≤ length l.new;
  same : AreSameFrom (is_ahead l.now l.nodes) l.old l.new l.time-index l.place;
}
