-- The order of starts and of launches.
use Rattle.std.specs.Prelude.{◌≡◌, Bool, true, ◌&&◌, ◌||◌, nat_eq, nat_lt, List, AllPairs}
use Rattle.request_data.specs.declared.report.Start.{Start}
use Rattle.reply_data.specs.declared.orders.Launch.{Launch}

-- by job, then by number
abbrev pub is_before : Start → Start → Bool
is_before one other = nat_lt one.id other.id || (nat_eq one.id other.id && nat_lt one.number other.number)

-- each start comes before those behind it, and so stands there once
abbrev pub InOrder : List Start → Type 0
InOrder starts = AllPairs (λ one other. is_before one other ≡ true) starts

abbrev pub LaunchesInOrder : List Launch → Type 0
LaunchesInOrder launches = AllPairs (λ (one other : Launch). is_before one.start other.start ≡ true) launches
