use Rattle.backfill_planner.proofs.Parts.{placed-own}
use Rattle.backfill_planner.proofs.laws.parts_are_on_own_nodes.Goals as goal

pub returns : goal.returns
returns c = placed-own c.lower_laws.ensures
