use Rattle.std.proofs.Common.{refl, arith}
use Rattle.plain_data.specs.Assocs.{greatest_depth}
use Rattle.assoc_reader.proofs.assoc_tree.greatest_depth.Goals as goal

pub returns : goal.returns
unfolding greatest_depth
returns c = record { value = refl; small = omega arith }
