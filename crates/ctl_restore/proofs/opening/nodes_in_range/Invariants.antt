use Rattle.std.proofs.Common.{All, take}
use Rattle.ctl_state.specs.Soundness.{IsNode}
use Rattle.ctl_restore.proofs.opening.nodes_in_range.Given as goal

abbrev pub invariant-loop-node : goal.invariant-loop-node
invariant-loop-node l = All IsNode (take l.node-index l.nodes)
