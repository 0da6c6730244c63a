use Rattle.std.proofs.Common.{◌≡◌, ◌≤◌, [], length, map, take, vec_len, vec_capacity}
use Rattle.backfill_planner.specs.Giving.{give}
use Rattle.backfill_planner.proofs.empty_nodes.capacities_of_empty_nodes.Given as goal

-- what the nodes so far can give, and room for the others
abbrev pub invariant-loop-node : goal.invariant-loop-node
invariant-loop-node l = record {
  so_far : l.caps.items ≡ map (λ node. give l.rooms [] l.job 0 node) (take l.node-index l.nodes);
  count : vec_len l.caps ≡ l.node-index;
  room : length l.nodes ≤ vec_capacity l.caps;
}
