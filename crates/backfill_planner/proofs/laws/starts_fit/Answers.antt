use Rattle.backfill_planner.proofs.Within.{plan-within}
use Rattle.backfill_planner.proofs.Starts.{starts-fit}
use Rattle.backfill_planner.proofs.laws.starts_fit.Goals as goal

pub returns : goal.returns
returns c base ranked now within low nodes jobs = starts-fit base ranked now (plan-within c.lower_laws.ensures base ranked now within low nodes jobs)
