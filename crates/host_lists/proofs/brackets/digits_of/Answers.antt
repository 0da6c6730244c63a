use Rattle.std.proofs.Common.{ℕ, List, max, length, ap, arith}
use Rattle.host_lists.proofs.CountLemmas.{few_digits}
use Rattle.host_lists.proofs.brackets.digits_of.Goals as goal

pub returns-clause-few : goal.returns-clause-few
returns-clause-few c =
    omega (arith, c.max.ensures, ap (λ (x : List ℕ). max (length x) c.args.width) c.format.ensures.text, few_digits c.args.number c.requires.number)
