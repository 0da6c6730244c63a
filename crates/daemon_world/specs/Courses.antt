-- A simulation's course, as events of the world.
use Rattle.std.specs.Prelude.{◌≡◌, ◌≢◌, List, All, AllPairs}
use Rattle.node_daemon.specs.Daemon.{Daemon}
use Rattle.simulation.specs.Simulation.{Simulated}
use Rattle.daemon_world.specs.Worlds.{AllCanHappen, Event, World, world_after_all}

-- the world is as the simulation has it: in its state, with its daemons, which are of nodes that differ
pub record Shows (w : World) (sim : Simulated) : Type 0 where
  pub state : w.state ≡ sim.state
  pub daemons : All (λ (daemon : Daemon). w.daemons daemon.node ≡ daemon) sim.daemons
  pub apart : AllPairs (λ (one other : Daemon). one.node ≢ other.node) sim.daemons

-- events that can happen in the world one after the other, and lead to one that is as the simulation has it
pub record Comes (w : World) (sim : Simulated) : Type 0 where
  pub events : List Event
  pub can : AllCanHappen w events
  pub shows : Shows (world_after_all w events) sim
