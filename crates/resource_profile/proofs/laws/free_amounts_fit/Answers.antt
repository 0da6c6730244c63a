use Rattle.resource_profile.proofs.Rooms.{AreWithin-add}
use Rattle.resource_profile.proofs.laws.free_amounts_fit.Goals as goal

pub returns : goal.returns
returns c = AreWithin-add
