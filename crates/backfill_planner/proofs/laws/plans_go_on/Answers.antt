use Rattle.backfill_planner.proofs.Stepping.{plan-next, holds-next}
use Rattle.backfill_planner.proofs.laws.plans_go_on.Goals as goal

pub returns-clause-holds : goal.returns-clause-holds
returns-clause-holds c = holds-next

pub returns-clause-plan : goal.returns-clause-plan
returns-clause-plan c = plan-next
