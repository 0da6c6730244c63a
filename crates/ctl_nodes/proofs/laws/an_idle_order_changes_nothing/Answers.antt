use Rattle.ctl_nodes.proofs.Kept.{idle, only}
use Rattle.ctl_nodes.proofs.laws.an_idle_order_changes_nothing.Goals as goal

pub returns-clause-idle : goal.returns-clause-idle
returns-clause-idle c = idle c.who_leaves_is_charged.ensures.nothing

pub returns-clause-only : goal.returns-clause-only
returns-clause-only c = only
