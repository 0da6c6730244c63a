use Rattle.std.proofs.Common.{refl}
use Rattle.std.proofs.lemmas.List.{take_all}
use Rattle.std.proofs.lemmas.Bool.{both_ways}
use Rattle.std.proofs.lemmas.List.Elements.{All-more}
use Rattle.ctl_restore.specs.Fits.{HasItsTasks}
use Rattle.ctl_restore.proofs.arrays.have_their_tasks.Goals as goal

pub returns-then-not-has_its_tasks : goal.returns-then-not-has_its_tasks
returns-then-not-has_its_tasks c = (
  λ yes. absurd (let never = yes in cc),
  λ all. absurd (both_ways c.has_its_tasks.result c.if-not-has_its_tasks.true (c.has_its_tasks.ensures.1 (rw c.array-item.is (all c.loop-array.array-index c.array-item.result c.loop-array-test.true)))),
)

pub loop-array-preserved : goal.loop-array-preserved
loop-array-preserved c =
    All-more (HasItsTasks c.args.jobs.now) c.args.arrays.now c.loop-array.array-index c.array-item.result
    c.loop-array-test.true c.loop-array.invariant
    (rw (← c.array-item.is) (c.has_its_tasks.ensures.0 c.if-not-has_its_tasks.false))

pub returns : goal.returns
returns c = (
  λ yes. rw (take_all c.loop-array.array-index c.args.arrays.now c.loop-array-test.false) at c.loop-array.invariant,
  λ all. refl,
)
