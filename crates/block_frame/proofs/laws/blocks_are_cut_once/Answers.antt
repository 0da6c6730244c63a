use Rattle.block_frame.proofs.Cutting.{cut_once}
use Rattle.block_frame.proofs.laws.blocks_are_cut_once.Goals as goal

pub returns : goal.returns
returns c = cut_once
