use Rattle.std.proofs.Common.{◌-◌, ◌≤◌}
use Rattle.plan_keeper.specs.Nodes.{HasNoMore}
use Rattle.plan_keeper.proofs.same_nodes.no_more_before.Given as goal
use Rattle.plain_data.specs.declared.seconds.TheConstants.{FOREVER}

-- no more is free at each second so far
abbrev pub invariant-loop-second : goal.invariant-loop-second
invariant-loop-second l = record {
  later : l.from ≤ l.second;
  free : HasNoMore l.old l.new l.now l.node l.second;
}

abbrev pub decreases-loop-second : goal.decreases-loop-second
decreases-loop-second l = FOREVER - l.second
