use Rattle.block_frame.proofs.Owing.{owes}
use Rattle.block_frame.proofs.laws.nothing_is_partial.Goals as goal

pub returns : goal.returns
returns c = λ form. (owes form).empty
