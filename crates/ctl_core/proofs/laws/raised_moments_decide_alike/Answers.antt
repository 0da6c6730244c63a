use Rattle.ctl_core.proofs.Raised.{reply-alike, state-alike}
use Rattle.ctl_core.proofs.laws.raised_moments_decide_alike.Goals as goal

pub returns-clause-reply : goal.returns-clause-reply
returns-clause-reply c = reply-alike

pub returns-clause-state : goal.returns-clause-state
returns-clause-state c = state-alike
