use Rattle.std.proofs.Common.{length, ap, ◌∙◌, arith}
use Rattle.std.proofs.lemmas.List.{length-append}
use Rattle.block_frame.proofs.Owing.{owes}
use Rattle.block_frame.proofs.laws.blocks_are_short.Goals as goal

pub returns : goal.returns
returns c = record {
  whole = λ form. (owes form).short;
  partial = λ form text p.
      let some = p.proper in
      omega (arith, (owes form).short p.block p.is_block, ap length p.cut ∙ length-append text p.more);
}
