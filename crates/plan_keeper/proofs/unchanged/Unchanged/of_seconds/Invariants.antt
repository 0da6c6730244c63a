use Rattle.std.proofs.Common.{◌≡◌, ◌↔◌, ◌<◌, ◌≤◌, ℕ, Bool, true, false, length, get_or, vec_len, vec_capacity}
use Rattle.plan_keeper.proofs.unchanged.Unchanged.of_seconds.Given as goal
use Rattle.plain_data.specs.declared.seconds.TheConstants.{FOREVER}

-- the first nodes are looked at
abbrev pub invariant-loop-node : goal.invariant-loop-node
invariant-loop-node l = record {
  long : length l.nodes.items ≡ l.node;
  len : vec_len l.nodes ≡ l.node;
  room : length l.seconds ≤ vec_capacity l.nodes;
  each : (node : ℕ) (d : Bool) → node < l.node → (get_or l.nodes.items node d ≡ true) ↔ ((FOREVER ≤ get_or l.seconds node 0) × (get_or l.marked.nodes.items node false ≡ true));
}
