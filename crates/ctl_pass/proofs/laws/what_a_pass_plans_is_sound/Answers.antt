use Rattle.std.proofs.Common.{rules}
use Rattle.ctl_pass.proofs.Readied.{sound-readied}
use Rattle.ctl_pass.proofs.laws.what_a_pass_plans_is_sound.Goals as goal

pub returns : goal.returns
returns c = sound-readied (search rules)
