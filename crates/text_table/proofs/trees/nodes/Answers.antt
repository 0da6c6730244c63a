use Rattle.std.proofs.Common.{◌≡◌, ◌<◌, length, arith}
use Rattle.text_table.proofs.Grows.{IsTree-none, IsTree-push}
use Rattle.text_table.proofs.trees.nodes.Goals as goal

pub loop-text-init : goal.loop-text-init
loop-text-init c = record {
  tree = rw c.new-nodes.ensures.items IsTree-none;
  few = omega (arith, c.new-nodes.ensures.len);
}

pub loop-text-preserved : goal.loop-text-preserved
loop-text-preserved c =
    let few : length c.loop-text.nodes.items < 256 = omega (arith, c.if-len-ge-MOST.false, c.len.ensures, c.loop-text.nodes.ok.0) in
    let len : c.len-in-loop-text.result ≡ length c.loop-text.nodes.items = omega (arith, c.len-in-loop-text.ensures, c.loop-text.nodes.ok.0) in
    let parent = rw len at c.in_ok-node.ensures.parent in
    record {
      tree = rw c.in_ok-push.ensures.items (IsTree-push c.loop-text.nodes.items c.in_ok-node.node c.loop-text.invariant.tree few parent c.in_ok-node.ensures.shares);
      few = omega (arith, c.in_ok-push.ensures.len, few, c.loop-text.nodes.ok.0);
    }
