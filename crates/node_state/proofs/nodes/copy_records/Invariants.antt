use Rattle.std.proofs.Common.{◌≡◌, take}
use Rattle.node_state.proofs.nodes.copy_records.Given as goal

abbrev pub invariant-loop-node : goal.invariant-loop-node
invariant-loop-node l = l.copies.items ≡ take l.node-index l.records
