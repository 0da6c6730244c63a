use Rattle.block_frame.proofs.Cutting.{blocks_of-blocks, rest_of-blocks}
use Rattle.block_frame.proofs.laws.blocks_go_first.Goals as goal

pub returns : goal.returns
returns c = λ form blocks text all. (blocks_of-blocks form blocks text all, rest_of-blocks form blocks text all)
