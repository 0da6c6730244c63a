use Rattle.std.proofs.Common.{arith}
use Rattle.ctl_state.specs.State.{state_of}
use Rattle.ctl_waiting.proofs.Members.{qos_priority_of-low}
use Rattle.ctl_waiting.proofs.priority.qos_priority_of.Goals as goal

pub returns-clause-value : goal.returns-clause-value
returns-clause-value c = rw c.qos.ensures at c.priority_at.ensures

pub returns-clause-low : goal.returns-clause-low
returns-clause-low c =
    let found = rw c.qos.ensures at c.priority_at.ensures in
    omega (arith, found, qos_priority_of-low (state_of c.args.cluster.now) c.args.job.now)
