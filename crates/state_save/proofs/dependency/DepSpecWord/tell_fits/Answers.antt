use Rattle.state_save.proofs.NeedWords.{dependency_sound}
use Rattle.state_save.proofs.dependency.DepSpecWord.tell_fits.Goals as goal

pub returns : goal.returns
returns c = dependency_sound
