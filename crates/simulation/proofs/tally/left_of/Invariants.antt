use Rattle.std.proofs.Common.{◌≡◌, ◌≤◌, take}
use Rattle.simulation.specs.Simulation.{count_of, is_left}
use Rattle.simulation.proofs.tally.left_of.Given as goal

abbrev pub invariant-loop-row : goal.invariant-loop-row
invariant-loop-row l = record {
  count : l.left ≡ count_of is_left (take l.row-index l.rows);
  few : l.left ≤ l.row-index;
}
