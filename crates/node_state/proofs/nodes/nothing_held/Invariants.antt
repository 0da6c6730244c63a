use Rattle.std.proofs.Common.{◌≡◌, length, All}
use Rattle.node_state.specs.declared.record.Held.{Held}
use Rattle.node_state.proofs.Holding.{nothing}
use Rattle.node_state.proofs.nodes.nothing_held.Given as goal

abbrev pub invariant-loop-node : goal.invariant-loop-node
invariant-loop-node l = All (λ (row : Held). row ≡ nothing) l.held.items × (length l.held.items ≡ l._node-index)
