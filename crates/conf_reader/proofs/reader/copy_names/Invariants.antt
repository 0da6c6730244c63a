use Rattle.std.proofs.Common.{◌≡◌, take}
use Rattle.plain_data.specs.Confs.{node_names}
use Rattle.conf_reader.proofs.reader.copy_names.Given as goal

abbrev pub invariant-loop-node : goal.invariant-loop-node
invariant-loop-node l = l.names.items ≡ node_names (take l.node-index l.nodes)
