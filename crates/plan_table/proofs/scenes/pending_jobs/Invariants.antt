use Rattle.std.proofs.Common.{◌<◌, All}
use Rattle.backfill_planner.specs.declared.job.PlanJob.{PlanJob}
use Rattle.plan_table.proofs.scenes.pending_jobs.Given as goal

-- the nodes of the jobs so far are all there
abbrev pub invariant-loop-id : goal.invariant-loop-id
invariant-loop-id l = All (λ (job : PlanJob). All (λ node. node < l.size.nodes) job.nodes) l.jobs.items
