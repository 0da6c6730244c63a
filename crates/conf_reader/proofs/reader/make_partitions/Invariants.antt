use Rattle.std.proofs.Common.{◌≡◌, ◌++◌, length}
use Rattle.plain_data.specs.Confs.{node_names}
use Rattle.conf_reader.specs.Reader.{partitions_by}
use Rattle.conf_reader.proofs.reader.make_partitions.Given as goal

abbrev pub decreases-loop-alloc : goal.decreases-loop-alloc
decreases-loop-alloc l = length l.lines.items

abbrev pub invariant-loop-alloc : goal.invariant-loop-alloc
invariant-loop-alloc l = l.partitions.items ++ partitions_by (node_names l.known) l.lines.items ≡ partitions_by (node_names l.known) l.initial.lines.items
