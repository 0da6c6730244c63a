use Rattle.std.proofs.Common.{ap, ◌∙◌, is_some}
use Rattle.backfill_planner.proofs.Freer.{fit-now}
use Rattle.backfill_planner.proofs.fitting.fits.Goals as goal

pub returns : goal.returns
returns c =
    c.is_some.ensures ∙ ap (λ placed. is_some placed) c.in_ok-placed.ensures.placed
    ∙ fit-now c.args.base.now.rooms c.args.profile.now.holds c.args.job.now c.args.now
