use Rattle.std.proofs.Common.{◌≡◌, ◌++◌, length, take, Some}
use Rattle.std.specs.List.{AllWithin}
use Rattle.std.specs.List.Sorted.{IsPermutation}
use Rattle.resource_profile.specs.Profiles.{HasFree}
use Rattle.backfill_planner.specs.Plans.{holds_of}
use Rattle.backfill_planner.proofs.planning.hold.Given as goal

-- the holds so far are added, and what the others hold is still free
abbrev pub invariant-loop-share : goal.invariant-loop-share
invariant-loop-share l = record {
  rooms : l.profile.rooms ≡ l.fn.profile.rooms;
  moved : IsPermutation (l.fn.profile.holds ++ take l.share-index (holds_of l.job (Some l.placed))) l.profile.holds;
  free : AllWithin (HasFree l.profile.rooms l.profile.holds) (holds_of l.job (Some l.placed)) l.share-index (length (holds_of l.job (Some l.placed)));
}
