use Rattle.std.proofs.Common.{◌≡◌, ℕ, ◌+◌, ◌*◌, ◌≤◌, ◌<◌, length, slice_index_or, vec_len, vec_capacity}
use Rattle.resource_profile.specs.declared.timeline.Timeline.{Timeline}
use Rattle.resource_profile.specs.Timelines.{StaysAsItWas}
use Rattle.resource_profile.proofs.profile.reserve_each.Given as goal

-- nothing but memory has changed, and the nodes so far have place
abbrev pub invariant-loop-i : goal.invariant-loop-i
invariant-loop-i l = record {
  long : length l.timelines.items ≡ length l.fn.timelines.items;
  each : (node : ℕ) (d : Timeline) → node < length l.fn.timelines.items → StaysAsItWas (slice_index_or l.fn.timelines.items node d) (slice_index_or l.timelines.items node d);
  room : (node : ℕ) (d : Timeline) → node < l.i → vec_len (slice_index_or l.timelines.items node d).levels + (2 * (slice_index_or l.timelines.items node d).holds + 4 * l.count) ≤ vec_capacity (slice_index_or l.timelines.items node d).levels;
}
