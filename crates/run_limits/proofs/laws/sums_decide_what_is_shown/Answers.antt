use Rattle.run_limits.proofs.Telling.{shows_same}
use Rattle.run_limits.proofs.laws.sums_decide_what_is_shown.Goals as goal

pub returns : goal.returns
returns c = shows_same
