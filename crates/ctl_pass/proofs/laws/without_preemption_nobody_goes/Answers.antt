use Rattle.ctl_pass.proofs.Preempted.{nobody-gone, nobody-off}
use Rattle.ctl_pass.proofs.laws.without_preemption_nobody_goes.Goals as goal

pub returns-clause-victims : goal.returns-clause-victims
returns-clause-victims c = nobody-off

pub returns-clause-pass : goal.returns-clause-pass
returns-clause-pass c = λ s now off. nobody-gone c.who_leaves_is_charged.ensures.nothing s now (nobody-off s now off)
