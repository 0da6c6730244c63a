use Rattle.std.proofs.Common.{refl, arith}
use Rattle.saved_data.specs.declared.job.SavedJob.{SavedJob}
use Rattle.ctl_restore.proofs.Finding.{rises}
use Rattle.ctl_restore.proofs.plain.are_rising.Goals as goal

pub returns : goal.returns
returns c = (
  λ yes. rises (λ (one : SavedJob). one.id) c.args.jobs.now
      (λ k d inside. c.loop-place.invariant.rises k d (omega (arith, inside, c.loop-place-test.false))),
  λ all. refl,
)
