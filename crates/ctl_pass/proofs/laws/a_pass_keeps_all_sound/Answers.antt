use Rattle.std.proofs.Common.{rules}
use Rattle.ctl_pass.proofs.Passes.{sound-passed}
use Rattle.ctl_pass.proofs.laws.a_pass_keeps_all_sound.Goals as goal

pub returns : goal.returns
returns c = sound-passed (search rules) (search rules) (search rules) (search rules)
