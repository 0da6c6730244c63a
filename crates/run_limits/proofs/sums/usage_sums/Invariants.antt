use Rattle.std.proofs.Common.{ℕ, ◌≡◌, ◌≤◌, ◌*◌, length, take, vec_len, Option}
use Rattle.std.specs.List.{zip}
use Rattle.run_limits.specs.Tree.{usage_of}
use Rattle.run_limits.specs.Paths.{sum_at}
use Rattle.run_limits.proofs.sums.usage_sums.Given as goal

-- the sums of the users so far
abbrev pub invariant-loop-user : goal.invariant-loop-user
invariant-loop-user l = record {
  len : vec_len l.sums.places ≡ length l.nodes;
  sums : (at : Option ℕ) → sum_at l.sums at ≡ usage_of l.nodes (take l.user (zip l.places l.usage)) at;
  small : (at : Option ℕ) → sum_at l.sums at ≤ 4294967295 * l.user;
}
