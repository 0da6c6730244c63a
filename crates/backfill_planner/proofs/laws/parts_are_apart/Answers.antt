use Rattle.backfill_planner.proofs.Parts.{plan-some, plan-parts}
use Rattle.backfill_planner.proofs.laws.parts_are_apart.Goals as goal

pub returns-clause-some : goal.returns-clause-some
returns-clause-some c = plan-some c.lower_laws.ensures

pub returns-clause-parts : goal.returns-clause-parts
returns-clause-parts c = plan-parts c.lower_laws.ensures
