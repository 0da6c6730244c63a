use Rattle.ctl_node_side.proofs.Silent.{idle_stays, stays_idle}
use Rattle.ctl_node_side.proofs.laws.an_idle_whole_pass_changes_nothing.Goals as goal

pub returns-clause-idle : goal.returns-clause-idle
returns-clause-idle c = idle_stays c.an_idle_pass_changes_nothing.ensures.idle

pub returns-clause-only : goal.returns-clause-only
returns-clause-only c = stays_idle c.an_idle_pass_changes_nothing.ensures.only
