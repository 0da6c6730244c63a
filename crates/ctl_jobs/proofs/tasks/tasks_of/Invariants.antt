use Rattle.std.proofs.Common.{◌≡◌, ◌++◌, drop, map}
use Rattle.std.specs.List.{enumerate_from}
use Rattle.ctl_jobs.specs.Drafts.{task_by}
use Rattle.ctl_jobs.proofs.tasks.tasks_of.Given as goal

-- the tasks so far, and those that are left to be made
abbrev pub invariant-loop-place : goal.invariant-loop-place
invariant-loop-place l =
    l.tasks.items
    ++ map (task_by l.draft l.terms l.array) (enumerate_from l.place (drop l.place l.indices))
    ≡ map (task_by l.draft l.terms l.array) (enumerate_from 0 l.indices)
