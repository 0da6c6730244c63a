use Rattle.std.proofs.Common.{sym, ◌∙◌}
use Rattle.run_limits.specs.declared.record.QosRecord.{QosRecord}
use Rattle.ctl_waiting.specs.Priority.{greatest, greatest_qos}
use Rattle.ctl_waiting.proofs.Members.{greatest_read}
use Rattle.ctl_waiting.proofs.greatest.greatest_qos.Goals as goal

pub returns : goal.returns
unfolding greatest greatest_qos
returns c =
    rw c.qos.ensures at c.priority_among.ensures
    ∙ sym (greatest_read (λ (one : QosRecord). one.conf.priority) c.args.cluster.now.assocs.qos 0)
