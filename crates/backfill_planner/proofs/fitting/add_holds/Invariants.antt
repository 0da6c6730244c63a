use Rattle.std.proofs.Common.{◌≡◌, ◌++◌, take}
use Rattle.backfill_planner.proofs.fitting.add_holds.Given as goal

-- the holds so far are added
abbrev pub invariant-loop-hold : goal.invariant-loop-hold
invariant-loop-hold l = record {
  rooms : l.profile.rooms ≡ l.fn.profile.rooms;
  holds : l.profile.holds ≡ l.fn.profile.holds ++ take l.hold-index l.holds;
}
