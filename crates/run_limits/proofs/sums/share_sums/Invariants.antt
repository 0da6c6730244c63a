use Rattle.std.proofs.Common.{ℕ, ◌≡◌, ◌≤◌, ◌*◌, length, take, vec_len, Option}
use Rattle.run_limits.specs.Tree.{children_shares}
use Rattle.run_limits.specs.Paths.{sum_at}
use Rattle.run_limits.proofs.sums.share_sums.Given as goal

-- the sums of the associations so far
abbrev pub invariant-loop-node : goal.invariant-loop-node
invariant-loop-node l = record {
  len : vec_len l.sums.places ≡ length l.nodes;
  sums : (at : Option ℕ) → sum_at l.sums at ≡ children_shares (take l.node-index l.nodes) at;
  small : (at : Option ℕ) → sum_at l.sums at ≤ 65535 * l.node-index;
}
