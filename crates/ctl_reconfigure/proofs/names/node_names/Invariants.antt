use Rattle.std.proofs.Common.{◌≡◌, take}
use Rattle.ctl_reconfigure.specs.Names.{node_names}
use Rattle.ctl_reconfigure.proofs.names.node_names.Given as goal

abbrev pub invariant-loop-node : goal.invariant-loop-node
invariant-loop-node l = l.names.items ≡ node_names (take l.node-index l.nodes)
