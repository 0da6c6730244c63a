use Rattle.std.proofs.Common.{take, All}
use Rattle.backfill_planner.specs.Placements.{IsPlannable}
use Rattle.plan_keeper.proofs.same_plan.tell_jobs.Given as goal

abbrev pub invariant-loop-job : goal.invariant-loop-job
invariant-loop-job l = All IsPlannable (take l.job-index l.jobs)
