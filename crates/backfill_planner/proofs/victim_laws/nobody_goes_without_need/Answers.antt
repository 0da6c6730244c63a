use Rattle.backfill_planner.proofs.Needs.{victims-suffice, victims-each}
use Rattle.backfill_planner.proofs.victim_laws.nobody_goes_without_need.Goals as goal

pub returns-clause-enough : goal.returns-clause-enough
returns-clause-enough c = victims-suffice c.pick_laws.ensures

pub returns-clause-needed : goal.returns-clause-needed
returns-clause-needed c = victims-each c.pick_laws.ensures
