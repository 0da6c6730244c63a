use Rattle.std.proofs.Common.{cond, arith, get_or}
use Rattle.std.proofs.lemmas.List.Sums.{sum_by_more}
use Rattle.run_limits.specs.declared.tree.TreeNode.{TreeNode}
use Rattle.run_limits.specs.Tree.{is_same_place}
use Rattle.run_limits.proofs.Nodes.{void}
use Rattle.run_limits.proofs.Ways.{added-low}
use Rattle.run_limits.proofs.sums.share_sums.Goals as goal

pub loop-node-preserved : goal.loop-node-preserved
loop-node-preserved c =
    record {
      len = omega (arith, c.add.ensures.len, c.loop-node.invariant.len);
      sums = λ at.
          let more = sum_by_more (λ (node : TreeNode). cond (is_same_place at node.parent) node.shares 0) c.args.nodes.now c.loop-node.node-index void c.loop-node-test.true in
          let added = rw c.from.ensures at (c.add.ensures.sums at) in
          omega (arith, more, added, c.loop-node.invariant.sums at);
      small = λ at.
          let added = rw c.from.ensures at (c.add.ensures.sums at) in
          let node = get_or c.args.nodes.now c.loop-node.node-index void in
          omega (arith, added, added-low (is_same_place at node.parent) node.shares, c.requires.shares c.loop-node.node-index void c.loop-node-test.true, c.loop-node.invariant.small at);
    }
