use Rattle.ctl_desk.proofs.Following.{follows}
use Rattle.ctl_desk.proofs.laws.answers_follow_at_a_desk_of_its_own.Goals as goal

pub returns : goal.returns
returns c = follows c.raised_moments_decide_alike.ensures.state
