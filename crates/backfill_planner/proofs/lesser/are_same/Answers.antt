use Rattle.std.proofs.lemmas.Bool.{OnTrue_from}
use Rattle.backfill_planner.proofs.Barring.{lists-same}
use Rattle.backfill_planner.proofs.lesser.are_same.Goals as goal

pub returns : goal.returns
returns c = OnTrue_from c.eq.result _ (lists-same c.args.one.now c.args.other.now c.eq.result c.eq.ensures)
