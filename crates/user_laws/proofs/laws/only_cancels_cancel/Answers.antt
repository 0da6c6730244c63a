use Rattle.user_laws.proofs.Cancelling.{none_cancelled}
use Rattle.user_laws.proofs.laws.only_cancels_cancel.Goals as goal

pub returns : goal.returns
returns c = none_cancelled
