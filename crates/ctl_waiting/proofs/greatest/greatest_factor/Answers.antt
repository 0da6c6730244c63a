use Rattle.std.proofs.Common.{sym, ◌∙◌}
use Rattle.node_state.specs.declared.partition_record.PartRecord.{PartRecord}
use Rattle.ctl_waiting.specs.Priority.{greatest, greatest_factor}
use Rattle.ctl_waiting.proofs.Members.{greatest_read}
use Rattle.ctl_waiting.proofs.greatest.greatest_factor.Goals as goal

pub returns : goal.returns
unfolding greatest greatest_factor
returns c =
    rw c.records.ensures.value at c.factor_among.ensures
    ∙ sym (greatest_read (λ (partition : PartRecord). partition.conf.factor) c.args.cluster.now.partitions 0)
