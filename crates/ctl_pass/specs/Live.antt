-- Sets of numbers of arrays.
use Rattle.std.specs.Prelude.{ℕ, Bool, nat_eq}
use Rattle.std.specs.HashSet.{contains}
use Rattle.ctl_pass.specs.declared.live_arrays.LiveArrays.{LiveArrays}

-- the number is in the set
unfoldable pub has_array : LiveArrays → ℕ → Bool
has_array arrays array = contains nat_eq arrays.numbers array
