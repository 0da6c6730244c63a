-- States that differ in the room that is left in their histories alone.
use Rattle.std.specs.Prelude.{◌≡◌, ◌≤◌, ℕ}
use Rattle.ctl_state.specs.State.{State}

-- the state, if the sizes of the requests accepted so far had this sum
abbrev pub sized : ℕ → State → State
sized size s = record s { size = size }

-- the latter is the same state, and its history is no fuller
pub record IsNoFuller (s t : State) : Type 0 where
  pub same : t ≡ sized t.size s
  pub size : t.size ≤ s.size
