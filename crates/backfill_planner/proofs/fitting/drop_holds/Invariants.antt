use Rattle.std.proofs.Common.{◌≡◌, ◌+◌, ℕ, take, sum_by}
use Rattle.resource_profile.specs.declared.Hold.{Hold}
use Rattle.backfill_planner.proofs.fitting.drop_holds.Given as goal

-- the holds so far are dropped
abbrev pub invariant-loop-hold : goal.invariant-loop-hold
invariant-loop-hold l = record {
  rooms : l.profile.rooms ≡ l.fn.profile.rooms;
  sums : (amount : Hold → ℕ) → sum_by amount l.fn.profile.holds ≡ sum_by amount (take l.hold-index l.holds) + sum_by amount l.profile.holds;
}
