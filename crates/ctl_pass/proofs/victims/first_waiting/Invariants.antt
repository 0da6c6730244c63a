use Rattle.std.proofs.Common.{◌≡◌, not, drop}
use Rattle.std.specs.Prelude.{find}
use Rattle.backfill_planner.specs.declared.job.PlanJob.{PlanJob}
use Rattle.ctl_pass.specs.Awaiting.{placements_of}
use Rattle.ctl_pass.specs.Preempting.{is_among}
use Rattle.ctl_pass.proofs.victims.first_waiting.Given as goal

-- all of those so far start
abbrev pub invariant-loop-need : goal.invariant-loop-need
invariant-loop-need l =
    find (λ (job : PlanJob). not (is_among (placements_of l.starts) job)) (drop l.need-index l.ranked)
    ≡ find (λ (job : PlanJob). not (is_among (placements_of l.starts) job)) l.ranked
