use Rattle.resource_profile.proofs.Lesser.{within-all}
use Rattle.resource_profile.proofs.pick_laws.fitting_sets_are_within.Goals as goal

pub returns : goal.returns
returns c = within-all
