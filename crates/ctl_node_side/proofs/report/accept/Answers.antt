use Rattle.ctl_state.specs.State.{state_of}
use Rattle.ctl_node_side.proofs.Dropped.{sound_on}
use Rattle.ctl_node_side.proofs.report.accept.Goals as goal

pub report_jobs-requires-clause-on : goal.report_jobs-requires-clause-on
report_jobs-requires-clause-on c = sound_on (state_of c.args.cluster.now) c.requires.sound
