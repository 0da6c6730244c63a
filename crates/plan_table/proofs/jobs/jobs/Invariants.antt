use Rattle.std.proofs.Common.{◌<◌}
use Rattle.std.specs.Prelude.{All}
use Rattle.backfill_planner.specs.declared.job.PlanJob.{PlanJob}
use Rattle.plan_table.proofs.jobs.jobs.Given as goal

abbrev pub invariant-loop-text : goal.invariant-loop-text
invariant-loop-text l = All (λ (job : PlanJob). All (λ node. node < l.count) job.nodes) l.jobs.items
