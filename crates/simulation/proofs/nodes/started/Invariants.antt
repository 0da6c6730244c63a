use Rattle.std.proofs.Common.{◌≡◌, filter_map, take}
use Rattle.simulation.specs.Simulation.{daemon_of}
use Rattle.simulation.proofs.nodes.started.Given as goal

abbrev pub invariant-loop-row : goal.invariant-loop-row
invariant-loop-row l = l.daemons.items ≡ filter_map daemon_of (take l.row-index l.rows)
