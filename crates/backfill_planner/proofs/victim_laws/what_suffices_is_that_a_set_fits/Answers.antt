use Rattle.backfill_planner.proofs.Needs.{enough-fits, lacking-fits}
use Rattle.backfill_planner.proofs.victim_laws.what_suffices_is_that_a_set_fits.Goals as goal

pub returns-clause-some : goal.returns-clause-some
returns-clause-some c = enough-fits c.pick_laws.ensures

pub returns-clause-none : goal.returns-clause-none
returns-clause-none c = λ rooms stay going job now gone set lacks. lacking-fits c.pick_laws.ensures rooms stay going job now gone lacks set
