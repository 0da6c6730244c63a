use Rattle.backfill_planner.proofs.Needs.{victims-rising, victims-within}
use Rattle.backfill_planner.proofs.victim_laws.victims_are_in_order.Goals as goal

pub returns-clause-rising : goal.returns-clause-rising
returns-clause-rising c = victims-rising c.pick_laws.ensures

pub returns-clause-within : goal.returns-clause-within
returns-clause-within c = victims-within c.pick_laws.ensures
