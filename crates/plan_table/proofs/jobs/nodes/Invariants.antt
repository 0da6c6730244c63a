use Rattle.std.proofs.Common.{◌<◌, ◌≢◌, All, AllPairs}
use Rattle.plan_table.proofs.jobs.nodes.Given as goal

-- the nodes so far are there and differ
abbrev pub invariant-loop-node : goal.invariant-loop-node
invariant-loop-node l = record {
  there : All (λ node. node < l.count) l.nodes.items;
  once : AllPairs (λ one other. one ≢ other) l.nodes.items;
}
