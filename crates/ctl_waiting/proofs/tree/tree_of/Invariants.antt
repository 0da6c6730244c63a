use Rattle.std.proofs.Common.{◌≡◌, ◌≤◌, map, take}
use Rattle.std.specs.Prelude.{All}
use Rattle.run_limits.specs.declared.tree.TreeNode.{TreeNode}
use Rattle.ctl_waiting.specs.FairShare.{node_of}
use Rattle.ctl_waiting.proofs.tree.tree_of.Given as goal

-- the nodes so far
abbrev pub invariant-loop-assoc : goal.invariant-loop-assoc
invariant-loop-assoc l = record {
  value : l.nodes.items ≡ map node_of (take l.assoc-index l.assocs);
  shares : All (λ (node : TreeNode). node.shares ≤ 65535) l.nodes.items;
}
