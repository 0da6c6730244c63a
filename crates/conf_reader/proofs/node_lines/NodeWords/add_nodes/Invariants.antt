use Rattle.std.proofs.Common.{◌≡◌, ◌++◌, take, map}
use Rattle.conf_reader.specs.NodeLines.{node_conf}
use Rattle.conf_reader.proofs.node_lines.NodeWords.add_nodes.Given as goal

abbrev pub invariant-loop-name : goal.invariant-loop-name
invariant-loop-name l =
    l.nodes ≡ l.initial.nodes ++ map (node_conf l.self) (take l.name-index l.names)
