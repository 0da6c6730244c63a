use Rattle.std.proofs.Common.{◌≡◌, ◌≤◌, true, take, All}
use Rattle.plain_data.specs.Rows.{has_id}
use Rattle.backfill_planner.specs.declared.job.Barred.{Barred}
use Rattle.backfill_planner.proofs.barred_times.walked_begin.Given as goal

-- the least of the begins so far
abbrev pub invariant-loop-time : goal.invariant-loop-time
invariant-loop-time l = record {
  later : l.end ≤ l.next;
  within : l.next ≤ l.last;
  least : All (λ (time : Barred). has_id time.nodes l.node ≡ true → l.end ≤ time.from → l.next ≤ time.from) (take l.time-index l.times);
}
