use Rattle.std.proofs.Common.{◌≤◌, vec_len}
use Rattle.run_limits.specs.Tree.{IsTree}
use Rattle.text_table.proofs.trees.nodes.Given as goal

-- a tree so far
abbrev pub invariant-loop-text : goal.invariant-loop-text
invariant-loop-text l = record {
  tree : IsTree l.nodes.items;
  few : vec_len l.nodes ≤ 256;
}
