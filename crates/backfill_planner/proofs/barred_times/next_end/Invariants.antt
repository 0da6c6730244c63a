use Rattle.std.proofs.Common.{◌≤◌, ◌<◌, take, All}
use Rattle.backfill_planner.specs.declared.job.Barred.{Barred}
use Rattle.backfill_planner.proofs.barred_times.next_end.Given as goal

-- the least of the ends so far
abbrev pub invariant-loop-time : goal.invariant-loop-time
invariant-loop-time l = record {
  later : l.after < l.next;
  within : l.next ≤ l.last;
  least : All (λ (time : Barred). l.after < time.until → l.next ≤ time.until) (take l.time-index l.barred);
}
