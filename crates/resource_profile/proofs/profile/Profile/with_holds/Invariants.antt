use Rattle.std.proofs.Common.{◌≡◌, take}
use Rattle.resource_profile.proofs.profile.Profile.with_holds.Given as goal

-- the holds so far
abbrev pub invariant-loop-hold : goal.invariant-loop-hold
invariant-loop-hold l = record {
  rooms : l.profile.rooms ≡ l.rooms;
  holds : l.profile.holds ≡ take l.hold-index l.holds;
}
