use Rattle.backfill_planner.proofs.Settling.{counted-more}
use Rattle.backfill_planner.proofs.laws.counts_go_on.Goals as goal

pub returns : goal.returns
returns c = counted-more
