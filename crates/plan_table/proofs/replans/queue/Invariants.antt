use Rattle.std.proofs.Common.{◌<◌, All}
use Rattle.backfill_planner.specs.declared.job.PlanJob.{PlanJob}
use Rattle.plan_table.proofs.replans.queue.Given as goal

-- the jobs so far are on the five nodes
abbrev pub invariant-loop-id : goal.invariant-loop-id
invariant-loop-id l = All (λ (job : PlanJob). All (λ node. node < 5) job.nodes) l.jobs.items
