use Rattle.std.proofs.Common.{◌≡◌, take}
use Rattle.plan_keeper.proofs.made_again.copy_jobs.Given as goal

-- the first jobs are copied
abbrev pub invariant-loop-job : goal.invariant-loop-job
invariant-loop-job l = l.copies.items ≡ take l.job-index l.jobs
