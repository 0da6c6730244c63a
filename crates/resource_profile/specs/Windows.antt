-- What a node has free over windows that begin and end near to one another.
use Rattle.std.specs.Prelude.{◌≡◌, ◌⊎◌, ℕ, ◌≤◌, ◌<◌, List}
use Rattle.resource_profile.specs.declared.NodeRoom.{NodeRoom}
use Rattle.resource_profile.specs.declared.Hold.{Hold}
use Rattle.resource_profile.specs.declared.levels.Amount.{Amount}
use Rattle.resource_profile.specs.declared.levels.Window.{Window}
use Rattle.resource_profile.specs.Free.{free_cpus, free_mem, least_over}

-- what the node has free at a moment
abbrev pub free_of : List NodeRoom → List Hold → ℕ → ℕ → Amount
free_of rooms holds node moment =
    record { cpus = free_cpus rooms holds node moment; mem = free_mem rooms holds node moment }

-- The least that is free over the window from `from` to `until`, and over each that begins and ends no earlier, but
-- early enough.
pub record IsSteady (free : ℕ → Amount) (from until : ℕ) (window : Window) : Type 0 where
  pub begins : from < window.begins_before
  pub ends : until ≤ window.ends_up_to
  pub cpus : (begin end : ℕ)
      → from ≤ begin → begin < window.begins_before → until ≤ end → end ≤ window.ends_up_to → begin < end
      → window.free.cpus ≡ least_over (λ moment. (free moment).cpus) begin end
  pub mem : (begin end : ℕ)
      → from ≤ begin → begin < window.begins_before → until ≤ end → end ≤ window.ends_up_to → begin < end
      → window.free.mem ≡ least_over (λ moment. (free moment).mem) begin end

-- no processor is free from the one moment on and before the other
abbrev pub IsFull : (ℕ → Amount) → ℕ → ℕ → Type 0
IsFull free from until = (moment : ℕ) → from ≤ moment → moment < until → (free moment).cpus ≡ 0

-- less than the amount is free at some moment of each window that begins from `from` on and before `bound`, and ends no
-- earlier than `until`
pub record IsShort (free : ℕ → Amount) (amount : Amount) (from until bound : ℕ) : Type 0 where
  pub later : from < bound
  pub less : (begin end : ℕ) → from ≤ begin → begin < bound → until ≤ end → begin < end
      → (least_over (λ moment. (free moment).cpus) begin end < amount.cpus)
      ⊎ (least_over (λ moment. (free moment).mem) begin end < amount.mem)
