-- When the planner makes a turn.
use Rattle.std.specs.Prelude.{ℕ, Bool, true, ◌||◌, ◌-◌, nat_lt, nat_le, Option, Some, None}
use Rattle.ctl_server.specs.declared.planner.LastTurn.{LastTurn}

-- none was made yet, entries have come since the last one, or so many seconds have passed
abbrev pub is_due : Option LastTurn → ℕ → ℕ → ℕ → Bool
is_due None now interval seen = true
is_due (Some last) now interval seen = nat_lt last.seen seen || nat_le interval (now - last.moment)
