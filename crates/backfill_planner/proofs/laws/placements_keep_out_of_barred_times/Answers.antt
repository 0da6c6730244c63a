use Rattle.backfill_planner.proofs.Parts.{placed-clear}
use Rattle.backfill_planner.proofs.laws.placements_keep_out_of_barred_times.Goals as goal

pub returns : goal.returns
returns c = placed-clear c.lower_laws.ensures
