use Rattle.std.proofs.Common.{◌≡◌, false, take}
use Rattle.host_lists.specs.Runs.{in_runs}
use Rattle.host_lists.proofs.runs.widen.Given as goal

abbrev pub invariant-loop-place : goal.invariant-loop-place
invariant-loop-place l = record {
  kept : l.runs ≡ l.fn.runs;
  apart : in_runs (take l.place l.runs) l.run.first ≡ false;
}
