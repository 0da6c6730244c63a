use Rattle.block_frame.proofs.Cutting.{text_is_cut}
use Rattle.block_frame.proofs.laws.texts_are_cut.Goals as goal

pub returns : goal.returns
returns c = text_is_cut
