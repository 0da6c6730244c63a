-- Windows of time.
use Rattle.std.specs.Prelude.{ℕ, ◌-◌, Bool, ◌&&◌, nat_le, nat_lt, count_by}
use Rattle.std.specs.List.{range_with_len}
use Rattle.sacct_book.specs.declared.window.Window.{Window}

-- a second is in the window
abbrev pub is_in : Window → ℕ → Bool
is_in window second = nat_le window.from second && nat_lt second window.until

-- how many of the seconds from a moment on and before another are in the window
unfoldable pub seconds_in : Window → ℕ → ℕ → ℕ
seconds_in window from until = count_by (is_in window) (range_with_len from (until - from))
