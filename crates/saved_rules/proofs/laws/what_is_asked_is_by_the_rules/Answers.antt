use Rattle.saved_rules.proofs.Asking.{called_rules, header_rules}
use Rattle.saved_rules.proofs.laws.what_is_asked_is_by_the_rules.Goals as goal

pub returns-clause-plain : goal.returns-clause-plain
returns-clause-plain c = header_rules c.what_sbatch_asks_is_by_the_rules.ensures

pub returns-clause-framed : goal.returns-clause-framed
returns-clause-framed c = called_rules c.what_sbatch_asks_is_by_the_rules.ensures
