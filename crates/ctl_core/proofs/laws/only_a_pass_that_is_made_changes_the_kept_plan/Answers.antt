use Rattle.ctl_core.proofs.Keeping.{kept-others, kept-refused}
use Rattle.ctl_core.proofs.laws.only_a_pass_that_is_made_changes_the_kept_plan.Goals as goal

pub returns-clause-refused : goal.returns-clause-refused
returns-clause-refused c = kept-refused

pub returns-clause-others : goal.returns-clause-others
returns-clause-others c = kept-others
