use Rattle.std.proofs.Common.{◌≡◌, drop}
use Rattle.conf_reader.specs.PartitionLines.{partition_names}
use Rattle.host_lists.specs.Hosts.{has}
use Rattle.conf_reader.proofs.partition_lines.has_partition.Given as goal

abbrev pub invariant-loop-line : goal.invariant-loop-line
invariant-loop-line l = has l.name (partition_names (drop l.line-index l.known)) ≡ has l.name (partition_names l.known)
