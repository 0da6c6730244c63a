use Rattle.std.proofs.Common.{◌≡◌, map, take}
use Rattle.ctl_saved.specs.Saving as spec
use Rattle.ctl_saved.proofs.nodes.saved_nodes.Given as goal

abbrev pub invariant-loop-node : goal.invariant-loop-node
invariant-loop-node l = l.saved.items ≡ map spec.saved_node (take l.node-index l.nodes)
