use Rattle.replay_picture.proofs.Harmless.{texts_stay_texts}
use Rattle.replay_picture.proofs.laws.texts_stay_texts.Goals as goal

pub returns : goal.returns
returns c = texts_stay_texts
