use Rattle.std.proofs.Common.{◌≡◌, ◌<◌, ◌≤◌, ℕ, length, get_or, vec_len, vec_capacity}
use Rattle.plan_keeper.specs.Kept.{IsKeptFrom}
use Rattle.plan_keeper.proofs.same_nodes.first_kept.Given as goal

-- the first nodes are looked at
abbrev pub invariant-loop-node : goal.invariant-loop-node
invariant-loop-node l = record {
  long : length l.same.items ≡ l.node;
  long_no_freer : length l.no_freer.items ≡ l.node;
  len : vec_len l.same ≡ l.node;
  len_no_freer : vec_len l.no_freer ≡ l.node;
  room : length l.new_rooms ≤ vec_capacity l.same;
  room_no_freer : length l.new_rooms ≤ vec_capacity l.no_freer;
  each : (node : ℕ) → node < l.node → IsKeptFrom l.old l.new l.now node (get_or l.same.items node 0) (get_or l.no_freer.items node 0);
}
