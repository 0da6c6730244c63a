use Rattle.std.proofs.Common.{rules}
use Rattle.ctl_pass.proofs.Planned.{ranked-stay}
use Rattle.ctl_pass.proofs.laws.what_is_ranked_stays.Goals as goal

pub returns : goal.returns
returns c = ranked-stay (search rules)
