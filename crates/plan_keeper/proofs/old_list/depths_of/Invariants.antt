use Rattle.std.proofs.Common.{◌≡◌, ◌<◌, ℕ, get_or, length, take}
use Rattle.backfill_planner.specs.declared.job.PlanJob.{PlanJob}
use Rattle.plan_keeper.specs.Marks.{depth, times}
use Rattle.plan_keeper.proofs.old_list.depths_of.Given as goal

-- the nodes of the first jobs are counted, and each of these has its depth
abbrev pub invariant-loop-job : goal.invariant-loop-job
invariant-loop-job l = record {
  counts_long : length l.counts.items ≡ l.fn.nodes;
  counted : (node d : ℕ) → node < l.fn.nodes → get_or l.counts.items node d ≡ times node (take l.job-index l.ranked);
  long : length l.depths.items ≡ l.job-index;
  deep : (place d : ℕ) (job : PlanJob) → place < l.job-index → get_or l.ranked place job ≡ job → get_or l.depths.items place d ≡ depth l.ranked place job;
}
