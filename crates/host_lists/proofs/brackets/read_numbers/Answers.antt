use Rattle.std.proofs.Common.{arith, sym, ◌∙◌}
use Rattle.host_lists.proofs.NumberLemmas.{number_within-few}
use Rattle.host_lists.proofs.brackets.read_numbers.Goals as goal

pub invariant_of-result : goal.invariant_of-result
invariant_of-result c =
    let few = number_within-few 9 999_999_999 c.in-One.number.now c.in_ok-n-in-One.n (sym c.parse_number.ensures.value ∙ c.in_ok-n-in-One.was) in
    (omega arith, omega (arith, few.1), few.0)

pub invariant_of-result-then-first-last : goal.invariant_of-result-then-first-last
invariant_of-result-then-first-last c =
    let first = number_within-few 9 999_999_999 c.in-Two.from.now c.in_ok-first-in-Two.first (sym c.parse_number-in-Two.ensures.value ∙ c.in_ok-first-in-Two.was) in
    let last = number_within-few 9 999_999_999 c.in-Two.to.now c.in_ok-last-in-Two.last (sym c.parse_number-in-Two-2.ensures.value ∙ c.in_ok-last-in-Two.was) in
    (c.if-first-last.true, omega (arith, last.1), first.0)
