use Rattle.std.proofs.Common.{ℕ, suc, ◌≡◌, ◌+◌, cond, length, vec_len, Option}
use Rattle.std.specs.Prelude.{option_map, unwrap_or}
use Rattle.run_limits.specs.Tree.{is_within}
use Rattle.run_limits.specs.Paths.{sum_at}
use Rattle.run_limits.proofs.Ways.{IsUnder, owed}
use Rattle.run_limits.proofs.sums.charge.Given as goal

-- what is added and what is still owed on the way up is what shall be added
abbrev pub invariant-loop-at : goal.invariant-loop-at
invariant-loop-at l = record {
  place : IsUnder (length l.nodes) l.at;
  len : vec_len l.sums.places ≡ length l.nodes;
  sums : (one : Option ℕ) → sum_at l.sums one + owed l.nodes one l.at l.by
      ≡ sum_at l.fn.sums one + cond (is_within l.nodes one l.fn.place) l.by 0;
}

abbrev pub decreases-loop-at : goal.decreases-loop-at
decreases-loop-at l = unwrap_or (option_map suc l.at) 0
