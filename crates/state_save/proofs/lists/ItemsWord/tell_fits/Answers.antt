use Rattle.state_save.proofs.ListWords.{list_sound}
use Rattle.state_save.proofs.lists.ItemsWord.tell_fits.Goals as goal

pub returns : goal.returns
returns g c = list_sound g.T.Word.fits g.T.Word.meaning c.tell_fits.ensures 44
