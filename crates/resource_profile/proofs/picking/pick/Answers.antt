use Rattle.std.proofs.Common.{refl}
use Rattle.resource_profile.proofs.Shares.{places-dealt}
use Rattle.resource_profile.proofs.Choosing.{chosen-unique, chosen-none_fits}
use Rattle.resource_profile.proofs.picking.pick.Goals as goal

pub returns-in_default-clause-no_choice : goal.returns-in_default-clause-no_choice
returns-in_default-clause-no_choice c =
    chosen-none_fits c.args.caps.now c.args.need.now (rw c.in_default.is at c.in_ok-set.ensures.none)

pub returns-clause-chosen : goal.returns-clause-chosen
returns-clause-chosen c =
    rw (c.in_ok-deal.ensures.ok, places-dealt, c.deref.ensures.value) (rw c.in-Some.is at c.in_ok-set.ensures.chosen)

pub returns-clause-choice : goal.returns-clause-choice
returns-clause-choice c =
    rw (c.in_ok-deal.ensures.ok, places-dealt, c.deref.ensures.value) (chosen-unique c.args.caps.now c.args.need.now _ (rw c.in-Some.is at c.in_ok-set.ensures.chosen))

pub returns-clause-dealt : goal.returns-clause-dealt
returns-clause-dealt c = rw (c.in_ok-deal.ensures.ok, places-dealt) refl
