use Rattle.block_frame.proofs.Cutting.{partial_is_no_block}
use Rattle.block_frame.proofs.laws.kinds_are_apart.Goals as goal

pub returns : goal.returns
returns c = record {
  partial = λ form text p. (partial_is_no_block form text p, λ bad. bad.not_partial p);
  bad = λ form text b. (b.no_block, b.not_partial);
}
