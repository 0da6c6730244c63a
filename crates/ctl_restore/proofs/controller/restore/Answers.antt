use Rattle.ctl_restore.specs.declared.refusal.RestoreRefusal.TheVariants.{Unfit}
use Rattle.ctl_restore.proofs.Fitting.{err-of}
use Rattle.ctl_restore.proofs.controller.restore.Goals as goal

pub returns-in-Err-clause-unfit : goal.returns-in-Err-clause-unfit
returns-in-Err-clause-unfit c = λ unfit fits.
    c.in-Err.ensures.unfit (err-of c.in-Err.refusal Unfit unfit) fits
