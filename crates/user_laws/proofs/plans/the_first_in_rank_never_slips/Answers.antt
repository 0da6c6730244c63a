use Rattle.user_laws.proofs.Fitting.{never_slips}
use Rattle.user_laws.proofs.plans.the_first_in_rank_never_slips.Goals as goal

pub returns : goal.returns
returns c = never_slips (record {
  some = c.placements_are_first.ensures.some;
  none = c.placements_are_first.ensures.none;
})
