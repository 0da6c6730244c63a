-- Priorities and ranks stay while jobs leave Running and are gone.
use Rattle.std.proofs.Common.{◌≡◌, ℕ, Bool, true, false, List, map, nat_eq, slice_get, refl, ap}
use Rattle.std.specs.Prelude.{All, position, option_and_then, unwrap_or}
use Rattle.std.specs.List.{AllZip}
use Rattle.job_table.specs.declared.record.JobRecord.{JobRecord}
use Rattle.job_table.specs.JobStates.{is_running}
use Rattle.job_table.specs.Usage.{RunsOn}
use Rattle.run_limits.specs.Tree.{users}
use Rattle.run_limits.specs.Ranks.{ranks_of}
use Rattle.node_state.specs.declared.reservation_record.Reservation.{Reservation}
use Rattle.ctl_state.specs.declared.record.ArrayRecord.{ArrayRecord}
use Rattle.ctl_state.specs.State.{State}
use Rattle.ctl_waiting.specs.Usage.{usage_at}
use Rattle.ctl_waiting.specs.FairShare.{rank_at, tree_of, user_count, user_usage}
use Rattle.ctl_waiting.specs.Priority.{all_cpus, greatest_factor, greatest_qos, parts_of}
use Rattle.ctl_waiting.specs.Rank.{is_above, is_higher}
use Rattle.ctl_waiting.specs.Laws.{left}
use Rattle.ctl_waiting.proofs.Charged.{used_in-stays}

module _ (s : State) (now : ℕ) (jobs : List JobRecord) (goes : JobRecord → Bool) (arrays : List ArrayRecord) (reservations : List Reservation) (on : AllZip (RunsOn now) s.jobs jobs) (idle : All (λ (job : JobRecord). goes job ≡ true → is_running job.state ≡ false) jobs) where
  usage_at-stays : (place : ℕ) → usage_at (left now jobs goes arrays reservations s) now place ≡ usage_at s now place
  unfolding usage_at
  usage_at-stays place = used_in-stays now place goes s.jobs jobs s.usage on idle

  user_usage-stays : user_usage (left now jobs goes arrays reservations s) now ≡ user_usage s now
  unfolding user_usage
  user_usage-stays = λ i. map (λ place. usage_at-stays place i) (users (tree_of s.assocs))

  rank_at-stays : (place : ℕ) → rank_at (left now jobs goes arrays reservations s) now place ≡ rank_at s now place
  unfolding rank_at
  rank_at-stays place =
      ap (λ (usage : List ℕ). unwrap_or (option_and_then (slice_get (ranks_of (tree_of s.assocs) usage)) (position (nat_eq place) (users (tree_of s.assocs)))) 0)
      user_usage-stays

  pub parts_of-stays : (job : JobRecord) → parts_of (left now jobs goes arrays reservations s) now job ≡ parts_of s now job
  unfolding parts_of all_cpus greatest_factor greatest_qos user_count
  parts_of-stays job = rw (rank_at-stays job.assoc) refl

  pub is_higher-stays : (one other : JobRecord)
      → is_higher (left now jobs goes arrays reservations s) now one other ≡ is_higher s now one other
  unfolding is_higher is_above
  is_higher-stays one other = rw (parts_of-stays one, parts_of-stays other) refl
