use Rattle.std.proofs.Common.{ℕ, ◌-◌, ◌≤◌, ◌<◌, length, get_or}
use Rattle.resource_profile.specs.declared.levels.Level.{Level}
use Rattle.resource_profile.proofs.levels.reach.Given as goal

-- those so far say no less
abbrev pub invariant-loop-end : goal.invariant-loop-end
invariant-loop-end l = record {
  low : l.place ≤ l.end;
  high : l.end ≤ length l.levels;
  cpus : (i : ℕ) (d : Level) → l.place ≤ i → i < l.end → l.least.cpus ≤ (get_or l.levels i d).free.cpus;
  mem : (i : ℕ) (d : Level) → l.place ≤ i → i < l.end → l.least.mem ≤ (get_or l.levels i d).free.mem;
}

abbrev pub decreases-loop-end : goal.decreases-loop-end
decreases-loop-end l = length l.levels - l.end
