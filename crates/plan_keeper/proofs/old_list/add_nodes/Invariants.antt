use Rattle.std.proofs.Common.{◌≡◌, ◌+◌, ◌<◌, ℕ, eqb, get_or, length, take}
use Rattle.std.specs.Prelude.{count_by}
use Rattle.plan_keeper.proofs.old_list.add_nodes.Given as goal

-- the first nodes are counted
abbrev pub invariant-loop-node : goal.invariant-loop-node
invariant-loop-node l = record {
  long : length l.counts.items ≡ length l.fn.counts.items;
  each : (node d : ℕ) → node < length l.fn.counts.items → get_or l.counts.items node d ≡ get_or l.fn.counts.items node d + count_by (eqb node) (take l.node-index l.nodes);
}
