use Rattle.state_save.proofs.PartWords.{share_sound}
use Rattle.state_save.proofs.shares.SavedShareWord.tell_fits.Goals as goal

pub returns : goal.returns
returns c = share_sound
