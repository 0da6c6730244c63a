-- What a node has free at a moment, and the least that it has free over a window.
use Rattle.std.specs.Prelude.{ℕ, ◌+◌, ◌-◌, min, zero, suc, Bool, false, ◌&&◌, nat_eq, nat_le, nat_lt, if◌then◌else◌, List, slice_index_or, sum_by}
use Rattle.resource_profile.specs.declared.NodeRoom.{NodeRoom}
use Rattle.resource_profile.specs.declared.Hold.{Hold}

-- the node's room, and none past the last node
abbrev pub room_at : List NodeRoom → ℕ → NodeRoom
room_at rooms node = slice_index_or rooms node (record { cpus = 0; mem = 0; usable = false })

-- the hold is on the node and covers the moment
abbrev pub covers : ℕ → ℕ → Hold → Bool
covers node moment hold = nat_eq hold.node node && (nat_le hold.from moment && nat_lt moment hold.until)

-- the processors, and the megabytes, of the node that are held at the moment
abbrev pub held_cpus : List Hold → ℕ → ℕ → ℕ
held_cpus holds node moment = sum_by (λ (hold : Hold). if covers node moment hold then hold.cpus else 0) holds

abbrev pub held_mem : List Hold → ℕ → ℕ → ℕ
held_mem holds node moment = sum_by (λ (hold : Hold). if covers node moment hold then hold.mem else 0) holds

-- those that are free
abbrev pub free_cpus : List NodeRoom → List Hold → ℕ → ℕ → ℕ
free_cpus rooms holds node moment = (room_at rooms node).cpus - held_cpus holds node moment

abbrev pub free_mem : List NodeRoom → List Hold → ℕ → ℕ → ℕ
free_mem rooms holds node moment = (room_at rooms node).mem - held_mem holds node moment

-- the least over the second `from` and so many seconds after it
unfoldable pub least_after : (ℕ → ℕ) → ℕ → ℕ → ℕ
least_after free from zero = free from
least_after free from (suc more) = min (free from) (least_after free (from + 1) more)

-- the least over every second of the window, which has one at least
abbrev pub least_over : (ℕ → ℕ) → ℕ → ℕ → ℕ
least_over free from until = least_after free from (until - from - 1)
