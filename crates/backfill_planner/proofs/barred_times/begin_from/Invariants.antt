use Rattle.std.proofs.Common.{◌≤◌, take, All}
use Rattle.backfill_planner.specs.declared.stretches.Stretch.{Stretch}
use Rattle.backfill_planner.proofs.barred_times.begin_from.Given as goal

-- the least of the begins so far
abbrev pub invariant-loop-stretch : goal.invariant-loop-stretch
invariant-loop-stretch l = record {
  later : l.end ≤ l.next;
  within : l.next ≤ l.last;
  least : All (λ (stretch : Stretch). l.end ≤ stretch.from → l.next ≤ stretch.from) (take l.stretch-index l.stretches);
}
