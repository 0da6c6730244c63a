use Rattle.std.proofs.Common.{rules}
use Rattle.host_lists.proofs.NumberLemmas.{number_of_digits}
use Rattle.host_lists.proofs.folding.number_of.Goals as goal

pub returns-clause-value : goal.returns-clause-value
returns-clause-value c = search (rules, number_of_digits)
