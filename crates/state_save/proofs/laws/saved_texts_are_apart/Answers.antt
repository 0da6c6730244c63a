use Rattle.state_save.proofs.Apart.{apart}
use Rattle.state_save.proofs.laws.saved_texts_are_apart.Goals as goal

pub returns : goal.returns
returns c = apart
