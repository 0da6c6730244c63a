use Rattle.std.proofs.Common.{ℕ, ◌≡◌, ◌<◌, ◌≤◌, true, false, take}
use Rattle.host_lists.specs.Runs.{in_runs}
use Rattle.host_lists.proofs.runs.first_known.Given as goal

abbrev pub invariant-loop-known : goal.invariant-loop-known
invariant-loop-known l = record {
  least : l.run.first ≤ l.place;
  most : l.place ≤ l.run.end;
  before : (number : ℕ) → l.run.first ≤ number → number < l.place → in_runs (take l.known-index l.runs) number ≡ false;
  at : l.place < l.run.end → in_runs (take l.known-index l.runs) l.place ≡ true;
}
