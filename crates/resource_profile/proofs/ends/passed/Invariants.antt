use Rattle.std.proofs.Common.{ℕ, ◌-◌, ◌≤◌, ◌<◌, length, slice_index_or}
use Rattle.resource_profile.specs.declared.ends.End.{End}
use Rattle.resource_profile.proofs.ends.passed.Given as goal

-- the ends before `low` are at most the moment, and those from `high` on later
abbrev pub invariant-loop-low : goal.invariant-loop-low
invariant-loop-low l = record {
  order : l.low ≤ l.high;
  bound : l.high ≤ length l.ends;
  before : (i : ℕ) (d : End) → i < l.low → (slice_index_or l.ends i d).moment ≤ l.moment;
  after : (i : ℕ) (d : End) → l.high ≤ i → i < length l.ends → l.moment < (slice_index_or l.ends i d).moment;
}

abbrev pub decreases-loop-low : goal.decreases-loop-low
decreases-loop-low l = l.high - l.low
