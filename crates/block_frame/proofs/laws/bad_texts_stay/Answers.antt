use Rattle.block_frame.proofs.Cutting.{bad_stays}
use Rattle.block_frame.proofs.laws.bad_texts_stay.Goals as goal

pub returns : goal.returns
returns c = bad_stays
