use Rattle.resource_profile.proofs.Choosing.{chosen-some, chosen-none, chosen-unique}
use Rattle.resource_profile.proofs.pick_laws.chosen_is_first.Goals as goal

pub returns-clause-some : goal.returns-clause-some
returns-clause-some c = chosen-some

pub returns-clause-none : goal.returns-clause-none
returns-clause-none c = chosen-none

pub returns-clause-is : goal.returns-clause-is
returns-clause-is c = chosen-unique
