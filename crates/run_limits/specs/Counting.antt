-- What jobs count towards limits.
use Rattle.std.specs.Prelude.{ℕ, Bool, false, ◌&&◌, nat_eq, if◌then◌else◌, List, count_by, sum_by, Option, Some, None}
use Rattle.std.specs.List.{list_any}
use Rattle.run_limits.specs.declared.record.AssocRecord.{AssocRecord}
use Rattle.run_limits.specs.Accounts.{above, are_of_one_user}
use Rattle.run_limits.specs.declared.counted.Counted.{Counted}
use Rattle.run_limits.specs.declared.counted.Counts.{Counts}
use Rattle.run_limits.specs.declared.counted.Group.{Group}
use Rattle.run_limits.specs.declared.counted.Group.TheVariants.{Array, Below, InQos, OfUser}

abbrev pub is_number : ℕ → Option ℕ → Bool
is_number number None = false
is_number number (Some other) = nat_eq other number

-- the job is of the group
unfoldable pub is_in : List AssocRecord → Group → Counted → Bool
is_in assocs (Array array) job = is_number array job.array
is_in assocs (Below place) job = list_any (nat_eq place) (above assocs job.assoc)
is_in assocs (InQos qos) job = nat_eq job.qos qos
is_in assocs (OfUser assoc qos) job = nat_eq job.qos qos && are_of_one_user assocs assoc job.assoc

-- how many of the jobs pass the test, and how many processors these count together
unfoldable pub counts_of : (Counted → Bool) → List Counted → Counts
counts_of test jobs =
    record { jobs = count_by test jobs; cpus = sum_by (λ (job : Counted). if test job then job.cpus else 0) jobs }
