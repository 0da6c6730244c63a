use Rattle.replay_picture.proofs.Apart.{bars_are_apart}
use Rattle.replay_picture.proofs.laws.bars_are_apart.Goals as goal

pub returns : goal.returns
returns c = bars_are_apart
