-- What is accounted.
use Rattle.std.specs.Prelude.{ℕ}
use Rattle.sacct_book.specs.declared.window.Window.{Window}

-- the window of all seconds until a moment
abbrev pub all_until : ℕ → Window
all_until moment = record { from = 0; until = moment }
