-- The simulation of a number on the cluster of simulations.
use Rattle.std.specs.Prelude.{ℕ, Option, Result, Ok}
use Rattle.text_values.specs.Steps.{◌>>=◌}
use Rattle.simulation.specs.Simulation.{Simulated, simulated}
use Rattle.cluster_opening.specs.SimulatedFiles.{simulated_conf, simulated_assocs}
use Rattle.cluster_opening.specs.declared.refusal.ClusterRefusal.{ClusterRefusal}
use Rattle.cluster_opening.specs.Cluster.{opening_in}

-- the simulation of a number on this cluster, before any other request; none where a job is left behind the last round
unfoldable pub simulation_of : ℕ → Result (Option Simulated) ClusterRefusal
simulation_of number = do
  s ← opening_in simulated_conf simulated_assocs
  Ok (simulated s number)
