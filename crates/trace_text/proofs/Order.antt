-- Submissions go one before the other in one way.
use Rattle.std.proofs.Common.{arith}
use Rattle.std.specs.Cmp.{IsStrictWeakOrder}
use Rattle.std.proofs.lemmas.Bool.Decides.{nat_tests}
use Rattle.trace_text.specs.Handing.{goes_before}

pub goes_before-order : IsStrictWeakOrder goes_before
goes_before-order = record { one_way = λ x y less. grind (arith, nat_tests); chain = λ x y z low high. grind (arith, nat_tests) }
