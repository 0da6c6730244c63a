-- Tests of numbers.
use Rattle.std.proofs.Common.{[], arith, ℕ, ◌≡◌}
use Rattle.std.proofs.lemmas.Bool.Decides.{nat_tests}
use Rattle.std.specs.Prelude.{nat_eq}

pub same-test : (one other : ℕ) → nat_eq one other ≡ nat_eq other one
same-test one other = grind (arith, nat_tests)
