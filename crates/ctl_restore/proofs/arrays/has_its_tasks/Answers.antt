use Rattle.std.proofs.Common.{length, ap, arith}
use Rattle.ctl_restore.proofs.Numbered.{below, its-tasks, none-there, tasks-all, tasks-some}
use Rattle.ctl_restore.proofs.arrays.has_its_tasks.Goals as goal

pub returns-then-tasks-gt0 : goal.returns-then-tasks-gt0
returns-then-tasks-gt0 c =
    let jobs = c.args.jobs.now in
    let array = c.args.array.now in
    let tasks = c.within-tasks.result.now in (
      λ yes. its-tasks jobs tasks array c.within-tasks.ensures
          (λ none. omega (arith, c.if-tasks-gt0.true, ap length none)) (c.are_of.ensures.0 yes),
      λ has. c.are_of.ensures.1 (tasks-all jobs tasks array c.within-tasks.ensures has),
    )

pub returns-else-tasks-gt0 : goal.returns-else-tasks-gt0
returns-else-tasks-gt0 c =
    let jobs = c.args.jobs.now in
    let array = c.args.array.now in
    let tasks = c.within-tasks.result.now in (
      λ yes. absurd (omega (arith, below 0 (length tasks) yes, c.if-tasks-gt0.false)),
      λ has. absurd (tasks-some jobs tasks array c.within-tasks.ensures has
          (none-there tasks (omega (arith, c.if-tasks-gt0.false)))),
    )
