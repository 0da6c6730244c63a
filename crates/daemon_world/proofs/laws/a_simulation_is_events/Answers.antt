use Rattle.daemon_world.proofs.Courses.{rounds_come}
use Rattle.daemon_world.proofs.laws.a_simulation_is_events.Goals as goal

pub returns : goal.returns
returns c = rounds_come c.orders_are_due.ensures
