-- Jobs that haven't ended, counted by their associations and qualities of service.
use Rattle.std.specs.Prelude.{ℕ, Bool, true, false, None}
use Rattle.run_limits.specs.declared.counted.Counted.{Counted}
use Rattle.run_limits.specs.declared.counted.Group.{Group}
use Rattle.run_limits.specs.declared.counted.Group.TheVariants.{Array, Below, InQos, OfUser}

-- what stands for a job of these where its array and its processors aren't asked for
abbrev pub counted_by : ℕ → ℕ → Counted
counted_by assoc qos = record { array = None; assoc = assoc; qos = qos; cpus = 0 }

-- the group is of an array's tasks
abbrev pub is_array : Group → Bool
is_array (Array array) = true
is_array (Below place) = false
is_array (InQos qos) = false
is_array (OfUser assoc qos) = false
