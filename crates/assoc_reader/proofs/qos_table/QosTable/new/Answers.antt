use Rattle.assoc_reader.proofs.QosLemmas.{none-yet}
use Rattle.assoc_reader.proofs.qos_table.QosTable.new.Goals as goal

pub invariant_of-result : goal.invariant_of-result
invariant_of-result c = rw c.new.ensures.items none-yet
