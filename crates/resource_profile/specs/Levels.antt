-- How a profile keeps what a node has free: by levels, each from its moment on and until the next one begins. Of the
-- public calls only the profile's invariant speaks of it.
use Rattle.std.specs.Prelude.{◌≡◌, ℕ, ◌+◌, ◌-◌, ◌≤◌, ◌<◌, ◌&&◌, nat_le, nat_lt, if◌then◌else◌, List, length, slice_index_or}
use Rattle.resource_profile.specs.declared.NodeRoom.{NodeRoom}
use Rattle.resource_profile.specs.declared.Hold.{Hold}
use Rattle.resource_profile.specs.declared.levels.Amount.{Amount}
use Rattle.resource_profile.specs.declared.levels.Level.{Level}

-- the levels begin at 0, each later than the one before it
pub record HasLevels (levels : List Level) : Type 0 where
  pub some : 0 < length levels
  pub first : (d : Level) → (slice_index_or levels 0 d).from ≡ 0
  pub rising : (i j : ℕ) (d : Level) → i < j → j < length levels
      → (slice_index_or levels i d).from < (slice_index_or levels j d).from

-- each level says what is free at every moment from its own on and before the next level's
pub record IsLevelled (free : ℕ → Amount) (levels : List Level) : Type 0 where
  pub shape : HasLevels levels
  pub said : (i moment : ℕ) (d : Level) → i < length levels → (slice_index_or levels i d).from ≤ moment
      → (i + 1 < length levels → moment < (slice_index_or levels (i + 1) d).from)
      → (slice_index_or levels i d).free ≡ free moment

-- where two levels begin
pub record AreEnds (levels : List Level) (first end from until : ℕ) : Type 0 where
  pub order : first < end
  pub within : end < length levels
  pub from_is : (d : Level) → (slice_index_or levels first d).from ≡ from
  pub until_is : (d : Level) → (slice_index_or levels end d).from ≡ until

-- less by so much, and more
abbrev pub less : Amount → Amount → Amount
less amount free = record { cpus = free.cpus - amount.cpus; mem = free.mem - amount.mem }

abbrev pub more : Amount → Amount → Amount
more amount free = record { cpus = free.cpus + amount.cpus; mem = free.mem + amount.mem }

-- what is free once it is changed over a window
abbrev pub changed : (Amount → Amount) → ℕ → ℕ → (ℕ → Amount) → ℕ → Amount
changed change from until free moment =
    if nat_le from moment && nat_lt moment until then change (free moment) else free moment

-- one level with its amount changed
abbrev pub changed_level : (Amount → Amount) → Level → Level
changed_level change level = record { from = level.from; free = change level.free }

-- the levels from `first` on and before `end` are changed, and no others
pub record AreChanged (change : Amount → Amount) (first end : ℕ) (levels after : List Level) : Type 0 where
  pub same_length : length after ≡ length levels
  pub inside : (i : ℕ) (d : Level) → first ≤ i → i < end
      → slice_index_or after i d ≡ changed_level change (slice_index_or levels i d)
  pub before : (i : ℕ) (d : Level) → i < first → slice_index_or after i d ≡ slice_index_or levels i d
  pub behind : (i : ℕ) (d : Level) → end ≤ i → slice_index_or after i d ≡ slice_index_or levels i d

-- what is free beside the hold, and without it
abbrev pub amount_of : Hold → Amount
amount_of hold = record { cpus = hold.cpus; mem = hold.mem }

abbrev pub taken : Hold → (ℕ → Amount) → ℕ → Amount
taken hold free moment = changed (less (amount_of hold)) hold.from hold.until free moment

abbrev pub given : Hold → (ℕ → Amount) → ℕ → Amount
given hold free moment = changed (more (amount_of hold)) hold.from hold.until free moment

-- what the hold takes is free over its window
pub record CanTake (levels : List Level) (hold : Hold) : Type 0 where
  pub free : ℕ → Amount
  pub levelled : IsLevelled free levels
  pub cpus : (moment : ℕ) → hold.from ≤ moment → moment < hold.until → hold.cpus ≤ (free moment).cpus
  pub mem : (moment : ℕ) → hold.from ≤ moment → moment < hold.until → hold.mem ≤ (free moment).mem

-- what is free without the hold is no more than the room
pub record CanGive (levels : List Level) (hold : Hold) (room : NodeRoom) : Type 0 where
  pub free : ℕ → Amount
  pub levelled : IsLevelled free levels
  pub cpus : (moment : ℕ) → hold.from ≤ moment → moment < hold.until → (free moment).cpus + hold.cpus ≤ room.cpus
  pub mem : (moment : ℕ) → hold.from ≤ moment → moment < hold.until → (free moment).mem + hold.mem ≤ room.mem
