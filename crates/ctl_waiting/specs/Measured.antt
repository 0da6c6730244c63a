-- What is found once for the priorities of all jobs at a moment.
use Rattle.std.specs.Prelude.{◌≡◌, ℕ, ◌<◌, length, slice_index}
use Rattle.ctl_state.specs.State.{State}
use Rattle.ctl_waiting.specs.declared.factors.Factors.{Factors}
use Rattle.ctl_waiting.specs.FairShare.{rank_at, user_count}
use Rattle.ctl_waiting.specs.Priority.{all_cpus, greatest_factor, greatest_qos}

-- These are the factors of a state at their moment.
pub record IsMeasured (s : State) (factors : Factors) : Type 0 where
  pub len : length factors.ranks.items ≡ length s.assocs
  pub ranks : (place : ℕ) → place < length s.assocs
      → slice_index factors.ranks.items place ≡ rank_at s factors.moment place
  pub users : factors.users ≡ user_count s
  pub cpus : factors.cpus ≡ all_cpus s
  pub factor : factors.greatest_factor ≡ greatest_factor s
  pub qos : factors.greatest_qos ≡ greatest_qos s
