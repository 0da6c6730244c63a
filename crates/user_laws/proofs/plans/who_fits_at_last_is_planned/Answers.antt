use Rattle.user_laws.proofs.Fitting.{fits_planned}
use Rattle.user_laws.proofs.plans.who_fits_at_last_is_planned.Goals as goal

pub returns : goal.returns
returns c = fits_planned (record {
  some = c.placements_are_first.ensures.some;
  none = c.placements_are_first.ensures.none;
})
