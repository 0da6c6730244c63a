use Rattle.ctl_session.proofs.Clocks.{reads_one}
use Rattle.ctl_session.proofs.meaning.read_clock.Goals as goal

pub returns : goal.returns
returns g c = reads_one _ _ _ _ _ _ c.now.ensures.moments c.now.ensures.tells c.now.ensures.course
