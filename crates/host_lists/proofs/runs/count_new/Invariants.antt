use Rattle.std.proofs.Common.{◌≡◌, ◌+◌, ◌-◌, ◌≤◌}
use Rattle.host_lists.specs.Runs.{new_from}
use Rattle.host_lists.proofs.runs.count_new.Given as goal

abbrev pub invariant-loop-number : goal.invariant-loop-number
invariant-loop-number l = record {
  value : l.count + new_from l.runs l.number (l.run.end - l.number) ≡ new_from l.runs l.run.first (l.run.end - l.run.first);
  few : l.count + l.run.first ≤ l.run.end;
  within : l.count + l.run.first ≤ l.number;
}

abbrev pub decreases-loop-number : goal.decreases-loop-number
decreases-loop-number l = l.run.end - l.number
