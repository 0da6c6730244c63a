use Rattle.std.proofs.Common.{refl}
use Rattle.std.proofs.lemmas.List.{take_all}
use Rattle.std.proofs.lemmas.Bool.{both_ways}
use Rattle.std.proofs.lemmas.List.Elements.{All-more}
use Rattle.ctl_state.specs.State.{state_of}
use Rattle.ctl_restore.specs.Fits.{IsKnownJob}
use Rattle.ctl_restore.proofs.known.are_known_jobs.Goals as goal

pub returns-then-not-is_known_job : goal.returns-then-not-is_known_job
returns-then-not-is_known_job c = (
  λ yes. absurd (let never = yes in cc),
  λ all. absurd (both_ways c.is_known_job.result c.if-not-is_known_job.true (c.is_known_job.ensures.1 (rw c.job-item.is (all c.loop-job.job-index c.job-item.result c.loop-job-test.true)))),
)

pub loop-job-preserved : goal.loop-job-preserved
loop-job-preserved c =
    All-more (IsKnownJob (state_of c.args.cluster.now)) c.args.jobs.now c.loop-job.job-index c.job-item.result
    c.loop-job-test.true c.loop-job.invariant
    (rw (← c.job-item.is) (c.is_known_job.ensures.0 c.if-not-is_known_job.false))

pub returns : goal.returns
returns c = (
  λ yes. rw (take_all c.loop-job.job-index c.args.jobs.now c.loop-job-test.false) at c.loop-job.invariant,
  λ all. refl,
)
