-- Changes go one before the other in one way.
use Rattle.std.proofs.Common.{arith}
use Rattle.std.specs.Cmp.{IsStrictWeakOrder}
use Rattle.std.proofs.lemmas.Bool.Decides.{nat_tests}
use Rattle.replay_report.specs.Changes.{goes_before}
use Rattle.replay_report.specs.declared.comparing.Direction.{Direction}

pub goes_before-order : (direction : Direction) → IsStrictWeakOrder (goes_before direction)
goes_before-order direction = record {
  one_way = λ x y less. grind (arith, nat_tests);
  chain = λ x y z low high. grind (arith, nat_tests);
}
