use Rattle.std.proofs.Common.{ap, arith}
use Rattle.std.specs.Prelude.{option_map, unwrap_or}
use Rattle.node_state.specs.declared.partition_record.PartRecord.{PartRecord}
use Rattle.ctl_state.specs.State.{state_of}
use Rattle.ctl_waiting.proofs.Members.{factor_of-low}
use Rattle.ctl_waiting.proofs.priority.factor_of.Goals as goal

pub returns-in-Some-clause-low : goal.returns-in-Some-clause-low
returns-in-Some-clause-low c =
    let found = ap (λ o. unwrap_or (option_map (λ (partition : PartRecord). partition.conf.factor) o) 0) c.in-Some.ensures in
    omega (arith, found, c.get.ensures.value, factor_of-low (state_of c.args.cluster.now) c.args.job.now)
