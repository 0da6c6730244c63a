use Rattle.ctl_state.specs.State.{state_of}
use Rattle.ctl_nodes.proofs.GivenBack.{sound_holds}
use Rattle.ctl_nodes.proofs.failing.lose.Goals as goal

pub fail_jobs-requires-clause-holds : goal.fail_jobs-requires-clause-holds
fail_jobs-requires-clause-holds c = sound_holds (state_of c.args.cluster.now) c.requires.sound
