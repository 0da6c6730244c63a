use Rattle.std.proofs.Common.{take, All}
use Rattle.backfill_planner.specs.declared.job.Barred.{Barred}
use Rattle.backfill_planner.specs.Staying.{IsOutside}
use Rattle.plan_keeper.proofs.unmoved.no_time_ends.Given as goal

abbrev pub invariant-loop-time : goal.invariant-loop-time
invariant-loop-time l = All (λ (time : Barred). IsOutside l.last l.hi time.until) (take l.time-index l.times)
