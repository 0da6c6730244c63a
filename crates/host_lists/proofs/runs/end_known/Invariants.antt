use Rattle.std.proofs.Common.{ℕ, ◌≡◌, ◌<◌, ◌≤◌, true, take}
use Rattle.host_lists.specs.Runs.{in_runs}
use Rattle.host_lists.proofs.runs.end_known.Given as goal

abbrev pub invariant-loop-known : goal.invariant-loop-known
invariant-loop-known l = record {
  least : l.number ≤ l.place;
  before : (k : ℕ) → l.number ≤ k → k < l.place → in_runs (take l.known-index l.runs) k ≡ true;
  more : in_runs (take l.known-index l.runs) l.number ≡ true → l.number < l.place;
}
