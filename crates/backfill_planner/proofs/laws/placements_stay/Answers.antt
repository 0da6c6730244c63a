use Rattle.backfill_planner.proofs.Staying.{placed-stays, unplaced-stays, unplaced-again}
use Rattle.backfill_planner.proofs.laws.placements_stay.Goals as goal

pub returns-clause-some : goal.returns-clause-some
returns-clause-some c = placed-stays c.lower_laws.ensures

pub returns-clause-none : goal.returns-clause-none
returns-clause-none c = unplaced-stays c.lower_laws.ensures

pub returns-clause-nowhere : goal.returns-clause-nowhere
returns-clause-nowhere c = unplaced-again
