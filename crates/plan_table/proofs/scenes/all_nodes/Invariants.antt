use Rattle.std.proofs.Common.{◌<◌, ◌≢◌, All, AllPairs}
use Rattle.plan_table.proofs.scenes.all_nodes.Given as goal

-- the nodes so far are those below the next, each once
abbrev pub invariant-loop-node : goal.invariant-loop-node
invariant-loop-node l = record {
  below : All (λ node. node < l.node) l.nodes.items;
  once : AllPairs (λ one other. one ≢ other) l.nodes.items;
}
