use Rattle.state_save.proofs.PartWords.{part_sound}
use Rattle.state_save.proofs.parts.NamedPartWord.tell_fits.Goals as goal

pub returns : goal.returns
returns c = part_sound
