use Rattle.std.proofs.Common.{◌+◌, ◌-◌, ◌≤◌}
use Rattle.backfill_planner.specs.Sweeps.{IsSwept}
use Rattle.backfill_planner.proofs.Seconds.{NonePlaced}
use Rattle.backfill_planner.proofs.placing.place.Given as goal

-- at none of the seconds before `start` some set fits
abbrev pub invariant-loop-start : goal.invariant-loop-start
invariant-loop-start g l = record {
  none_placed : NonePlaced l.base.rooms l.profile.holds l.job l.lo l.hi l.start;
  from : l.lo ≤ l.start;
  swept : IsSwept l.base.rooms l.profile.holds l.job l.sweep;
  order : l.sweep.second ≤ l.start;
}

abbrev pub decreases-loop-start : goal.decreases-loop-start
decreases-loop-start g l = l.hi + 1 - l.start
