-- What a tally shows.
use Rattle.std.specs.Prelude.{◌≡◌, ℕ, ◌+◌, Bool, ◌&&◌, nat_eq, if◌then◌else◌, unwrap_or, List, sum_by, Option, Some, None}
use Rattle.std.specs.HashMap.{get}
use Rattle.run_limits.specs.declared.record.AssocRecord.{AssocRecord}
use Rattle.run_limits.specs.Accounts.{user_number}
use Rattle.run_limits.specs.declared.counted.Counted.{Counted}
use Rattle.run_limits.specs.declared.counted.Counts.{Counts}
use Rattle.run_limits.specs.declared.counted.Group.{Group}
use Rattle.run_limits.specs.declared.counted.Group.TheVariants.{Array, Below, InQos, OfUser}
use Rattle.run_limits.specs.declared.tally.Tally.{Tally}
use Rattle.run_limits.specs.Counting.{counts_of, is_in}

-- what is kept of a group; of one of which nothing is kept, no job counts
abbrev pub kept : Option Counts → Counts
kept counts = unwrap_or counts (record { jobs = 0; cpus = 0 })

-- one job more counts, with so many processors, where it is of the group
abbrev pub with_job_if : Bool → ℕ → Counts → Counts
with_job_if counted cpus counts =
    if counted then record { jobs = counts.jobs + 1; cpus = counts.cpus + cpus } else counts

-- a user, by his number, and the place of a quality of service are those of another pair
abbrev pub is_same_pair : ℕ × ℕ → ℕ × ℕ → Bool
is_same_pair one other = nat_eq one.0 other.0 && nat_eq one.1 other.1

-- what the tally tells of a user in a quality of service
abbrev pub told_of_user : Tally → Option ℕ → ℕ → Counts
told_of_user tally None qos = kept None
told_of_user tally (Some user) qos = kept (get is_same_pair tally.users (user, qos))

-- what the tally tells of a group
unfoldable pub told : List AssocRecord → Tally → Group → Counts
told assocs tally (Array array) = kept (get nat_eq tally.arrays array)
told assocs tally (Below place) = kept (get nat_eq tally.below place)
told assocs tally (InQos qos) = kept (get nat_eq tally.qos qos)
told assocs tally (OfUser assoc qos) = told_of_user tally (user_number assocs assoc) qos

-- it shows what these jobs count, of each group
unfoldable pub Shows : List AssocRecord → Tally → List Counted → Type 0
Shows assocs tally jobs = (group : Group) → told assocs tally group ≡ counts_of (is_in assocs group) jobs

-- whatever is summed over them, the jobs come to the same
abbrev pub HaveSameSums : List Counted → List Counted → Type 0
HaveSameSums some others = (amount : Counted → ℕ) → sum_by amount some ≡ sum_by amount others
