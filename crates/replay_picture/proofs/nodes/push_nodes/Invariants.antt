use Rattle.std.proofs.Common.{◌≡◌, ◌++◌, ◌+◌, ◌*◌, ◌-◌, ◌^◌, ◌<◌, drop, length}
use Rattle.replay_picture.specs.Nodes.{nodes_text}
use Rattle.replay_picture.proofs.nodes.push_nodes.Given as goal

abbrev pub invariant-loop-node : goal.invariant-loop-node
invariant-loop-node l =
    (l.top + 400 * (length l.nodes - l.node-index) < 2 ^ 32)
    × (l.out.items ++ nodes_text l.period l.bars l.height l.top (drop l.node-index l.nodes)
    ≡ l.fn.out.items ++ nodes_text l.period l.bars l.height l.fn.top l.nodes)
