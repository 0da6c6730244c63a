-- Which of two jobs is higher in rank.
use Rattle.std.specs.Prelude.{ℕ, Bool, ◌&&◌, ◌||◌, not, nat_eq, nat_lt, unwrap_or, option_map}
use Rattle.node_state.specs.declared.partition_record.PartRecord.{PartRecord}
use Rattle.job_table.specs.declared.record.JobRecord.{JobRecord}
use Rattle.ctl_state.specs.State.{State, partition_of}
use Rattle.ctl_waiting.specs.declared.rank_keys.RankKey.{RankKey}
use Rattle.ctl_waiting.specs.Priority.{parts_of}

-- the tier of the job's partition
abbrev pub tier_of : State → JobRecord → ℕ
tier_of s job = unwrap_or (option_map (λ (partition : PartRecord). partition.conf.tier) (partition_of s job)) 0

-- the job's priority at a moment
abbrev pub priority_of : State → ℕ → JobRecord → ℕ
priority_of s now job = (parts_of s now job).sum

-- what a job is ranked by at a moment
abbrev pub key_of : State → ℕ → JobRecord → RankKey
key_of s now job = record { tier = tier_of s job; priority = priority_of s now job }

-- of a higher tier, or of the same tier and of a higher priority
unfoldable pub is_above : RankKey → RankKey → Bool
is_above one other =
    nat_lt other.tier one.tier || (nat_eq other.tier one.tier && nat_lt other.priority one.priority)

-- One job is higher in rank than another. Jobs that are alike in both rank by their numbers.
unfoldable pub is_higher : State → ℕ → JobRecord → JobRecord → Bool
is_higher s now one other = is_above (key_of s now one) (key_of s now other)

-- one job comes before another: it is higher in rank, or as high and of a lower number
abbrev pub comes_before : State → ℕ → JobRecord → JobRecord → Bool
comes_before s now one other =
    is_higher s now one other || (nat_lt one.id other.id && not (is_higher s now other one))
