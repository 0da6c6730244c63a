use Rattle.std.proofs.Common.{◌≡◌, map}
use Rattle.node_state.specs.Renewing.{renewed}
use Rattle.node_state.proofs.renewing.records_for.Given as goal

abbrev pub invariant-loop-conf : goal.invariant-loop-conf
invariant-loop-conf l = l.records.items ≡ map (renewed l.nodes.records l.dropped l.moment) l.yielded
