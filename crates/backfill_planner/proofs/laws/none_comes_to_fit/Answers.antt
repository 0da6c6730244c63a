use Rattle.backfill_planner.proofs.Quiet.{none-comes}
use Rattle.backfill_planner.proofs.laws.none_comes_to_fit.Goals as goal

pub returns : goal.returns
returns c = none-comes c.lower_laws.ensures
