use Rattle.std.proofs.Common.{◌≡◌, drop}
use Rattle.host_lists.specs.Hosts.{has}
use Rattle.plain_data.specs.Assocs.{qos_names}
use Rattle.assoc_reader.proofs.qos_table.has_qos.Given as goal

abbrev pub invariant-loop-one : goal.invariant-loop-one
invariant-loop-one l = has l.name (qos_names (drop l.one-index l.qos)) ≡ has l.name (qos_names l.qos)
