use Rattle.std.proofs.Common.{ℕ, ◌≤◌, ◌<◌, length, get_or}
use Rattle.resource_profile.specs.declared.levels.Level.{Level}
use Rattle.resource_profile.proofs.levels.short_until.Given as goal

-- the levels left to read begin within the window, and the one behind them behind its begin
abbrev pub invariant-loop-place : goal.invariant-loop-place
invariant-loop-place l = record {
  high : l.place ≤ length l.levels;
  begin : (i : ℕ) (d : Level) → i < l.place → (get_or l.levels i d).from < l.until;
  behind : (d : Level) → l.place < length l.levels → l.from < (get_or l.levels l.place d).from;
}

abbrev pub decreases-loop-place : goal.decreases-loop-place
decreases-loop-place l = l.place
