-- How a profile keeps its holds: in a list, by node in the levels of what is free, and by their ends. Of public calls
-- only the profile's invariant speaks of it.
use Rattle.std.specs.Prelude.{◌≡◌, ℕ, ◌+◌, ◌*◌, ◌≤◌, ◌<◌, nat_eq, if◌then◌else◌, List, length, sum_by, slice_index_or, vec_len, vec_capacity}
use Rattle.resource_profile.specs.declared.NodeRoom.{NodeRoom}
use Rattle.resource_profile.specs.declared.Hold.{Hold}
use Rattle.resource_profile.specs.declared.ends.End.{End}
use Rattle.resource_profile.specs.declared.timeline.Timeline.{Timeline}
use Rattle.resource_profile.specs.Windows.{free_of, IsFull}
use Rattle.resource_profile.specs.Levels.{IsLevelled}
use Rattle.resource_profile.specs.Ends.{HasEnds, ends_at}
use Rattle.resource_profile.specs.Profiles.{AreWithin}

-- how many holds are on the node
abbrev pub holds_on : List Hold → ℕ → ℕ
holds_on holds node = sum_by (λ (hold : Hold). if nat_eq hold.node node then 1 else 0) holds

-- how many holds end at the moment
abbrev pub holds_until : List Hold → ℕ → ℕ
holds_until holds moment = sum_by (λ (hold : Hold). if nat_eq hold.until moment then 1 else 0) holds

-- The levels say what the node has free, and some moments are known at which that is no processor. There is place for those that so many more holds and the end of every hold can
-- make, two for each.
pub record IsTimeline (rooms : List NodeRoom) (holds : List Hold) (node spare : ℕ) (timeline : Timeline) : Type 0 where
  pub levelled : IsLevelled (λ moment. free_of rooms holds node moment) timeline.levels.items
  pub count : timeline.holds ≡ holds_on holds node
  pub full : IsFull (λ moment. free_of rooms holds node moment) timeline.full.from timeline.full.until
  pub room : vec_len timeline.levels + (2 * timeline.holds + 4 * spare) ≤ vec_capacity timeline.levels

-- the profile's parts agree
pub record AreKept (rooms : List NodeRoom) (holds : List Hold) (ends : List End) (timelines : List Timeline) (spare : ℕ)
    : Type 0 where
  pub within : AreWithin rooms holds
  pub long : length timelines ≡ length rooms
  pub each : (node : ℕ) (d : Timeline) → node < length rooms
      → IsTimeline rooms holds node spare (slice_index_or timelines node d)
  pub has_ends : HasEnds ends
  pub same_ends : (moment : ℕ) → holds_until holds moment ≡ ends_at ends moment

-- nothing but memory has changed
pub record StaysAsItWas (timeline after : Timeline) : Type 0 where
  pub levels : after.levels.items ≡ timeline.levels.items
  pub holds : after.holds ≡ timeline.holds
  pub full : after.full ≡ timeline.full
  pub len : vec_len after.levels ≡ vec_len timeline.levels
  pub capacity : vec_capacity timeline.levels ≤ vec_capacity after.levels
