use Rattle.std.proofs.Common.{ℕ, ◌-◌, ◌≤◌, ◌<◌, length, get_or}
use Rattle.resource_profile.specs.declared.levels.Level.{Level}
use Rattle.resource_profile.proofs.LevelLeast.{IsLeastOf}
use Rattle.resource_profile.proofs.levels.least_free.Given as goal

-- the least of the levels so far, which but for the first begin within the window
abbrev pub invariant-loop-place : goal.invariant-loop-place
invariant-loop-place l = record {
  low : l.begun ≤ l.place;
  high : l.place ≤ length l.levels;
  begin : (i : ℕ) (d : Level) → l.begun ≤ i → i < l.place → (get_or l.levels i d).from < l.until;
  cpus : IsLeastOf (λ amount. amount.cpus) l.levels (l.begun - 1) l.place l.lowest.free.cpus l.lowest.behind_cpus;
  mem : IsLeastOf (λ amount. amount.mem) l.levels (l.begun - 1) l.place l.lowest.free.mem l.lowest.behind_mem;
}

abbrev pub decreases-loop-place : goal.decreases-loop-place
decreases-loop-place l = length l.levels - l.place
