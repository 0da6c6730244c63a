use Rattle.std.proofs.Common.{refl, Any, ◌⊎◌}
use Rattle.std.proofs.lemmas.List.{take_all}
use Rattle.std.proofs.lemmas.Bool.{both_ways}
use Rattle.std.proofs.lemmas.List.Elements.{All-more}
use Rattle.saved_data.specs.declared.job.SavedJob.{SavedJob}
use Rattle.ctl_restore.specs.Fits.{IsLone, IsTaskOf}
use Rattle.ctl_restore.proofs.arrays.are_placed.Goals as goal

pub returns-then-not-is_placed : goal.returns-then-not-is_placed
returns-then-not-is_placed c = (
  λ yes. absurd (let never = yes in cc),
  λ all. absurd (both_ways c.is_placed.result c.if-not-is_placed.true (c.is_placed.ensures.1 (rw c.job-item.is (all c.loop-job.job-index c.job-item.result c.loop-job-test.true)))),
)

pub loop-job-preserved : goal.loop-job-preserved
loop-job-preserved c =
    All-more (λ (job : SavedJob). IsLone job ⊎ Any (IsTaskOf job) c.args.arrays.now) c.args.jobs.now c.loop-job.job-index c.job-item.result
    c.loop-job-test.true c.loop-job.invariant
    (rw (← c.job-item.is) (c.is_placed.ensures.0 c.if-not-is_placed.false))

pub returns : goal.returns
returns c = (
  λ yes. rw (take_all c.loop-job.job-index c.args.jobs.now c.loop-job-test.false) at c.loop-job.invariant,
  λ all. refl,
)
