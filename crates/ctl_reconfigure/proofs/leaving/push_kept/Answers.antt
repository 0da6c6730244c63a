use Rattle.std.proofs.Common.{bytes_eq, not}
use Rattle.std.specs.Prelude.{is_some}
use Rattle.std.specs.HashMap.{get}
use Rattle.node_state.specs.declared.record.DroppedNode.{DroppedNode}
use Rattle.ctl_reconfigure.proofs.Growing.{filter-more}
use Rattle.ctl_reconfigure.proofs.leaving.push_kept.Goals as goal

pub loop-node-preserved : goal.loop-node-preserved
loop-node-preserved c =
    filter-more (λ (node : DroppedNode). not (is_some (get bytes_eq c.args.lines.now node.name))) c.args.dropped.now
    c.loop-node.node-index c.node-item.result _ _ _ c.loop-node-test.true c.node-item.is c.loop-node.invariant
    c.in_ok-push_unlisted.ensures
