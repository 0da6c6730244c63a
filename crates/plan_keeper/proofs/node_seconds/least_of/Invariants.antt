use Rattle.std.proofs.Common.{ℕ, ◌<◌, ◌≤◌, get_or}
use Rattle.plan_keeper.proofs.node_seconds.least_of.Given as goal

-- none of the first is earlier
abbrev pub invariant-loop-second : goal.invariant-loop-second
invariant-loop-second l = (place d : ℕ) → place < l.second-index → l.least ≤ get_or l.seconds place d
