use Rattle.std.proofs.Common.{◌≡◌, ℕ, ◌≤◌, ◌<◌, [], length, slice_index_or, vec_len, vec_capacity}
use Rattle.resource_profile.specs.declared.timeline.Timeline.{Timeline}
use Rattle.resource_profile.specs.Timelines.{IsTimeline}
use Rattle.resource_profile.proofs.profile.fresh.Given as goal

-- the timelines so far, and room for the others
abbrev pub invariant-loop-room : goal.invariant-loop-room
invariant-loop-room l = record {
  long : length l.timelines.items ≡ l.room-index;
  each : (node : ℕ) (d : Timeline) → node < l.room-index → IsTimeline l.rooms [] node 0 (slice_index_or l.timelines.items node d);
  count : vec_len l.timelines ≡ l.room-index;
  capacity : length l.rooms ≤ vec_capacity l.timelines;
}
