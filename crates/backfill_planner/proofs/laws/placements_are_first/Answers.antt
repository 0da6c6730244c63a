use Rattle.backfill_planner.proofs.LeastSecond.{placed-is, placed-nowhere}
use Rattle.backfill_planner.proofs.laws.placements_are_first.Goals as goal

pub returns-clause-some : goal.returns-clause-some
returns-clause-some c = placed-is c.lower_laws.ensures

pub returns-clause-none : goal.returns-clause-none
returns-clause-none c = placed-nowhere c.lower_laws.ensures
