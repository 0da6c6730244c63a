use Rattle.replay.proofs.Answered.{never_fall}
use Rattle.replay.proofs.laws.moments_never_fall.Goals as goal

pub returns : goal.returns
returns c = never_fall
