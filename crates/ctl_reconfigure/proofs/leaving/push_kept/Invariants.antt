use Rattle.std.proofs.Common.{◌≡◌, ◌++◌, bytes_eq, not, take}
use Rattle.std.specs.Prelude.{filter, is_some}
use Rattle.std.specs.HashMap.{get}
use Rattle.node_state.specs.declared.record.DroppedNode.{DroppedNode}
use Rattle.ctl_reconfigure.proofs.leaving.push_kept.Given as goal

abbrev pub invariant-loop-node : goal.invariant-loop-node
invariant-loop-node l =
    l.all.items ≡ l.fn.all.items
    ++ filter (λ (node : DroppedNode). not (is_some (get bytes_eq l.lines node.name))) (take l.node-index l.dropped)
