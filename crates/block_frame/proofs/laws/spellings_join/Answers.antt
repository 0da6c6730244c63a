use Rattle.block_frame.proofs.Cutting.{spelled_all-append}
use Rattle.block_frame.proofs.laws.spellings_join.Goals as goal

pub returns : goal.returns
returns c = spelled_all-append
