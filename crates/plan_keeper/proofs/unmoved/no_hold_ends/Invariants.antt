use Rattle.std.proofs.Common.{take, All}
use Rattle.resource_profile.specs.declared.Hold.{Hold}
use Rattle.backfill_planner.specs.Staying.{IsOutside}
use Rattle.plan_keeper.proofs.unmoved.no_hold_ends.Given as goal

abbrev pub invariant-loop-hold : goal.invariant-loop-hold
invariant-loop-hold l = All (λ (hold : Hold). IsOutside l.last l.hi hold.until) (take l.hold-index l.holds)
