use Rattle.backfill_planner.proofs.OneNode.{one-enough}
use Rattle.backfill_planner.proofs.laws.one_node_is_enough.Goals as goal

pub returns : goal.returns
returns c = one-enough c.lower_laws.ensures
