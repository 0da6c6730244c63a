-- Those so far that hold processors are counted.
use Rattle.std.proofs.Common.{◌-◌, ◌≤◌, length, take}
use Rattle.run_limits.specs.Tallies.{Shows}
use Rattle.ctl_state.specs.Counted.{holding}
use Rattle.ctl_state.proofs.counting.count_holding.Given as goal

abbrev pub invariant-loop-place : goal.invariant-loop-place
invariant-loop-place l = record {
  counted : Shows l.assocs.records l.tally (holding (take l.from l.jobs.records));
  within : l.from ≤ length l.jobs.records;
}

abbrev pub decreases-loop-place : goal.decreases-loop-place
decreases-loop-place l = length l.jobs.records - l.from
