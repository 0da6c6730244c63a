use Rattle.std.proofs.Common.{◌∙◌}
use Rattle.ctl_pass.proofs.Passes.{idle_is}
use Rattle.ctl_pass.proofs.pass.is_idle.Goals as goal

pub returns : goal.returns
returns c = c.is_same.ensures ∙ idle_is c.who_is_awaited_stays.ensures.changes _ _ _ c.requires
