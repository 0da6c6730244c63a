use Rattle.backfill_planner.proofs.Parts.{plan-ids, plan-apart, plan-starts}
use Rattle.backfill_planner.proofs.laws.placements_are_of_ranked_jobs.Goals as goal

pub returns-clause-ids : goal.returns-clause-ids
returns-clause-ids c = plan-ids c.lower_laws.ensures

pub returns-clause-apart : goal.returns-clause-apart
returns-clause-apart c = plan-apart c.lower_laws.ensures

pub returns-clause-starts : goal.returns-clause-starts
returns-clause-starts c = plan-starts c.lower_laws.ensures
