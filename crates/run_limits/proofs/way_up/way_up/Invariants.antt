-- The places so far, and the way from there on.
use Rattle.std.proofs.Common.{◌≡◌, ◌-◌, ◌≤◌, ◌++◌, length}
use Rattle.run_limits.specs.Accounts.{above}
use Rattle.run_limits.proofs.Way.{onwards}
use Rattle.run_limits.proofs.way_up.way_up.Given as goal

abbrev pub invariant-loop : goal.invariant-loop
invariant-loop l = record {
  places : l.places.items ++ onwards (16 - l.counter) l.records l.next ≡ above l.records l.fn.place;
  few : length l.places.items ≤ l.counter;
}
