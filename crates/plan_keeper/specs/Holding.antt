-- What is held of a node from a moment on.
use Rattle.std.specs.Prelude.{ℕ, Bool, ◌&&◌, nat_eq, nat_lt, if◌then◌else◌, List, map, filter}
use Rattle.resource_profile.specs.declared.Hold.{Hold}

-- the hold, taken from the later of its beginning and now
abbrev pub hold_from : ℕ → Hold → Hold
hold_from now hold = record hold { from = if nat_lt hold.from now then now else hold.from }

-- the hold is on the node and ends later than now
abbrev pub is_held_past : ℕ → ℕ → Hold → Bool
is_held_past now node hold = nat_eq hold.node node && nat_lt now hold.until

-- the holds of the node that end later than now, in order, each taken from the later of its beginning and now
abbrev pub holds_from : ℕ → ℕ → List Hold → List Hold
holds_from now node holds = map (hold_from now) (filter (is_held_past now node) holds)
