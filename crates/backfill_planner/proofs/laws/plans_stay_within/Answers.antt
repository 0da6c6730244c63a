use Rattle.backfill_planner.proofs.Within.{plan-within}
use Rattle.backfill_planner.proofs.laws.plans_stay_within.Goals as goal

pub returns : goal.returns
returns c = plan-within c.lower_laws.ensures
