-- Why jobs wait, and how they rank, whatever the sum of sizes.
use Rattle.std.proofs.Common.{ℕ, ◌≡◌, ◌∙◌, filter_map, Option, refl, ap}
use Rattle.backfill_planner.specs.declared.job.PlanJob.{PlanJob}
use Rattle.job_table.specs.declared.record.JobRecord.{JobRecord}
use Rattle.ctl_state.specs.State.{State}
use Rattle.ctl_waiting.specs.Candidates.{candidates, needs_of, ranked}
use Rattle.ctl_waiting.specs.FairShare.{rank_at, user_count, user_usage}
use Rattle.ctl_waiting.specs.Priority.{all_cpus, greatest_factor, greatest_qos, parts_of}
use Rattle.ctl_waiting.specs.Rank.{is_higher}
use Rattle.ctl_waiting.specs.Reasons.{hindrance}
use Rattle.ctl_waiting.specs.Usage.{usage_at}
use Rattle.saved_laws.specs.Rooms.{sized}

pub hindrance_sized : (size : ℕ) (s : State) (now : ℕ) → hindrance (sized size s) now ≡ hindrance s now
unfolding hindrance
hindrance_sized size s now = refl

pub rank_at_sized : (size : ℕ) (s : State) (now : ℕ) → rank_at (sized size s) now ≡ rank_at s now
unfolding rank_at user_usage usage_at
rank_at_sized size s now = refl

pub parts_of_sized : (size : ℕ) (s : State) (now : ℕ) → parts_of (sized size s) now ≡ parts_of s now
unfolding parts_of rank_at user_usage usage_at user_count all_cpus greatest_factor greatest_qos
parts_of_sized size s now = refl

pub is_higher_sized : (size : ℕ) (s : State) (now : ℕ) → is_higher (sized size s) now ≡ is_higher s now
unfolding is_higher parts_of rank_at user_usage usage_at user_count all_cpus greatest_factor greatest_qos
is_higher_sized size s now = refl

pub candidates_sized : (size : ℕ) (s : State) (now : ℕ) → candidates (sized size s) now ≡ candidates s now
unfolding candidates hindrance is_higher parts_of rank_at user_usage usage_at user_count all_cpus greatest_factor greatest_qos
candidates_sized size s now = refl

pub needs_of_sized : (size : ℕ) (s : State) (now : ℕ) → needs_of (sized size s) now ≡ needs_of s now
unfolding needs_of
needs_of_sized size s now = refl

pub ranked_sized : (size : ℕ) (s : State) (now : ℕ) → ranked (sized size s) now ≡ ranked s now
unfolding ranked
ranked_sized size s now =
    ap (λ (needs : JobRecord → Option PlanJob). filter_map needs (candidates (sized size s) now)) (needs_of_sized size s now)
    ∙ ap (filter_map (needs_of s now)) (candidates_sized size s now)
