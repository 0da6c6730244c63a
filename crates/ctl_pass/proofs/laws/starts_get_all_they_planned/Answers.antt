use Rattle.std.proofs.Common.{rules}
use Rattle.ctl_pass.proofs.Passes.{given-passed}
use Rattle.ctl_pass.proofs.laws.starts_get_all_they_planned.Goals as goal

pub returns : goal.returns
returns c = given-passed (search rules) (search rules) (search rules) c.who_is_awaited_stays.ensures.changes
