use Rattle.resource_profile.proofs.Lesser.{lesser-fits}
use Rattle.resource_profile.proofs.pick_laws.lesser_needs_fit.Goals as goal

pub returns : goal.returns
returns c = lesser-fits
