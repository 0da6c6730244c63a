use Rattle.replay.proofs.Answered.{each_answered}
use Rattle.replay.proofs.laws.each_is_answered.Goals as goal

pub returns : goal.returns
returns c = each_answered
