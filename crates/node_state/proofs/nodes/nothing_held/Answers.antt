use Rattle.std.proofs.Common.{arith}
use Rattle.node_state.proofs.Holding.{nothing-within}
use Rattle.node_state.proofs.nodes.nothing_held.Goals as goal

pub returns-clause-within : goal.returns-clause-within
returns-clause-within c = nothing-within c.args.nodes.now c.loop-node.held.items (omega arith) c.loop-node.invariant.0
