use Rattle.std.proofs.Common.{◌≡◌, ◌<◌, ◌&&◌, not, false, ℕ, eqb, get_or, length, take}
use Rattle.std.specs.List.{list_any}
use Rattle.plan_keeper.proofs.unchanged.take_out.Given as goal

-- the first nodes are taken out
abbrev pub invariant-loop-node : goal.invariant-loop-node
invariant-loop-node l = record {
  long : length l.same.items ≡ length l.fn.same.items;
  each : (node : ℕ) → node < length l.fn.same.items → get_or l.same.items node false ≡ (get_or l.fn.same.items node false && not (list_any (eqb node) (take l.node-index l.nodes)));
}
