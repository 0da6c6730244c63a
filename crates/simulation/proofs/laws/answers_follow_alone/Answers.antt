use Rattle.simulation.proofs.Following.{follows}
use Rattle.simulation.proofs.laws.answers_follow_alone.Goals as goal

pub returns : goal.returns
returns c = follows c.raised_moments_decide_alike.ensures.state
