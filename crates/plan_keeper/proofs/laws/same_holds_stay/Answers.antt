use Rattle.plan_keeper.proofs.Holding.{stays-held}
use Rattle.plan_keeper.proofs.laws.same_holds_stay.Goals as goal

pub returns : goal.returns
returns c = stays-held
