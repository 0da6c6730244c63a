use Rattle.std.proofs.Common.{rules}
use Rattle.ctl_pass.proofs.Passes.{can-start_due}
use Rattle.ctl_pass.proofs.laws.what_is_due_can_start.Goals as goal

pub returns : goal.returns
returns c = can-start_due (search rules) (search rules)
