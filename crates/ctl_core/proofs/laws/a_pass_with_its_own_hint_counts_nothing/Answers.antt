use Rattle.ctl_core.proofs.Hinted.{own-hint}
use Rattle.ctl_core.proofs.laws.a_pass_with_its_own_hint_counts_nothing.Goals as goal

pub returns : goal.returns
returns c = own-hint c.a_whole_pass_over_its_own_plan_counts_nothing.ensures
