use Rattle.std.proofs.Common.{refl}
use Rattle.std.proofs.lemmas.List.{take_all}
use Rattle.std.proofs.lemmas.Bool.{both_ways}
use Rattle.std.proofs.lemmas.List.Elements.{All-more}
use Rattle.ctl_restore.specs.Steps.{IsOnUp}
use Rattle.ctl_restore.proofs.kept.are_up.Goals as goal

pub returns-then-not-is_on_up : goal.returns-then-not-is_on_up
returns-then-not-is_on_up c = (
  λ yes. absurd (let never = yes in cc),
  λ all. absurd (both_ways c.is_on_up.result c.if-not-is_on_up.true (c.is_on_up.ensures.1 (rw c.job-item.is (all c.loop-job.job-index c.job-item.result c.loop-job-test.true)))),
)

pub loop-job-preserved : goal.loop-job-preserved
loop-job-preserved c =
    All-more (IsOnUp c.args.nodes.now.records) c.args.jobs.now c.loop-job.job-index c.job-item.result
    c.loop-job-test.true c.loop-job.invariant
    (rw (← c.job-item.is) (c.is_on_up.ensures.0 c.if-not-is_on_up.false))

pub returns : goal.returns
returns c = (
  λ yes. rw (take_all c.loop-job.job-index c.args.jobs.now c.loop-job-test.false) at c.loop-job.invariant,
  λ all. refl,
)
