use Rattle.backfill_planner.proofs.Staying.{placed-stays-before}
use Rattle.backfill_planner.proofs.NoFreer.{placed-no-earlier, unplaced-no-earlier}
use Rattle.backfill_planner.proofs.laws.placements_stay_before.Goals as goal

pub returns-clause-some : goal.returns-clause-some
returns-clause-some c = placed-stays-before c.lower_laws.ensures

pub returns-clause-no_earlier : goal.returns-clause-no_earlier
returns-clause-no_earlier c = placed-no-earlier c.lower_laws.ensures

pub returns-clause-none : goal.returns-clause-none
returns-clause-none c = unplaced-no-earlier c.lower_laws.ensures
