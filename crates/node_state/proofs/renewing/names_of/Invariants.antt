use Rattle.std.proofs.Common.{◌≡◌, take}
use Rattle.node_state.specs.Renewing.{dropped_names}
use Rattle.node_state.proofs.renewing.names_of.Given as goal

abbrev pub invariant-loop-node : goal.invariant-loop-node
invariant-loop-node l = l.names.items ≡ dropped_names (take l.node-index l.dropped)
