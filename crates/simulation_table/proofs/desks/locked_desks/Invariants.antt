use Rattle.std.proofs.Common.{◌≡◌}
use Rattle.simulation_table.proofs.desks.locked_desks.Given as goal

abbrev pub invariant-loop : goal.invariant-loop
invariant-loop g l = l.pass.lock ≡ l.lock
