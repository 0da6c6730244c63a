-- The partitions so far.
use Rattle.std.proofs.Common.{◌≡◌, map}
use Rattle.node_state.specs.Partitions as spec
use Rattle.node_state.proofs.partitions.records_of.Given as goal

abbrev pub invariant-loop-conf : goal.invariant-loop-conf
invariant-loop-conf l = l.records.items ≡ map (spec.opened l.nodes.records) l.yielded
