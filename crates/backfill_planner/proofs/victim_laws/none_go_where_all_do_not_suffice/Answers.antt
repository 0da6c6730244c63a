use Rattle.backfill_planner.proofs.GivingBack.{victims-none}
use Rattle.backfill_planner.proofs.Needs.{none-lacks}
use Rattle.backfill_planner.proofs.victim_laws.none_go_where_all_do_not_suffice.Goals as goal

pub returns-clause-none : goal.returns-clause-none
returns-clause-none c = victims-none c.pick_laws.ensures

pub returns-clause-lacks : goal.returns-clause-lacks
returns-clause-lacks c = none-lacks c.pick_laws.ensures
