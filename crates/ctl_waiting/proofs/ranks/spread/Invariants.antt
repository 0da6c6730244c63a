use Rattle.std.proofs.Common.{◌≡◌, ℕ, ◌<◌, ◌≤◌, get_or, length, take, vec_len}
use Rattle.run_limits.specs.Tree.{users}
use Rattle.ctl_waiting.specs.FairShare.{tree_of}
use Rattle.ctl_waiting.proofs.Users.{rank_in}
use Rattle.ctl_waiting.proofs.ranks.spread.Given as goal

-- the ranks so far, and how many of them are of users
abbrev pub invariant-loop-assoc : goal.invariant-loop-assoc
invariant-loop-assoc l = record {
  len : vec_len l.spread ≡ l.assoc-index;
  next : l.next ≡ length (users (tree_of (take l.assoc-index l.assocs)));
  low : l.next ≤ l.assoc-index;
  each : (place : ℕ) → place < l.assoc-index
      → get_or l.spread.items place 0 ≡ rank_in l.ranks (take l.assoc-index l.assocs) place;
}
