-- Each number so far is above the one before it.
use Rattle.std.proofs.Common.{ℕ, ◌+◌, ◌<◌, ◌≤◌, get_or}
use Rattle.ctl_restore.proofs.arrays.are_rising.Given as goal

abbrev pub invariant-loop-place : goal.invariant-loop-place
invariant-loop-place l = record {
  some : 1 ≤ l.place;
  rises : (k : ℕ) (d : ℕ) → k + 1 < l.place → get_or l.numbers k d < get_or l.numbers (k + 1) d;
}
