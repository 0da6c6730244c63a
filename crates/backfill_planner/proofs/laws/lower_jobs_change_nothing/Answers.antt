use Rattle.backfill_planner.proofs.Beginnings.{plan_of-take}
use Rattle.backfill_planner.proofs.laws.lower_jobs_change_nothing.Goals as goal

pub returns : goal.returns
returns c = plan_of-take
