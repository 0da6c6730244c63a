-- The use by hour, from the first submission on.
use Rattle.std.specs.Prelude.{◌≡◌, ℕ, ◌+◌, ◌-◌, ◌*◌, ◌<◌, min, List, length, sum_by, slice_index}
use Rattle.std.specs.Int.{div_ceil}
use Rattle.replay_report.specs.Numbers.{stopped}
use Rattle.replay_report.specs.Spans.{used_between}
use Rattle.replay_report.specs.declared.spans.Reach.{Reach}
use Rattle.replay_report.specs.declared.spans.Span.{Span}

-- how many hours there are up to the last end, and ten years' at the most
abbrev pub hours_in : Reach → ℕ
hours_in reach = min (div_ceil (reach.last - reach.first) 3600) 87_600

-- the second at which an hour begins, the first of which is 0
abbrev pub hour_at : ℕ → ℕ → ℕ
hour_at first hour = stopped (first + stopped (3600 * hour))

-- the processor-seconds of a job within an hour
unfoldable pub used_in : ℕ → ℕ → Span → ℕ
used_in first hour span = used_between (hour_at first hour) (hour_at first (hour + 1)) span

-- each hour has the processor-seconds of these jobs within it
abbrev pub CountsHours : ℕ → List Span → List ℕ → Type 0
CountsHours first spans hours =
    (hour : ℕ) → hour < length hours → slice_index hours hour ≡ stopped (sum_by (used_in first hour) spans)
