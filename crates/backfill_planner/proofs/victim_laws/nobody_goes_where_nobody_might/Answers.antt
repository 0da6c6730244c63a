use Rattle.backfill_planner.proofs.Needs.{victims-nobody}
use Rattle.backfill_planner.proofs.victim_laws.nobody_goes_where_nobody_might.Goals as goal

pub returns : goal.returns
returns c = victims-nobody c.pick_laws.ensures
