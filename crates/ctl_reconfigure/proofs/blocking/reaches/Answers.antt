use Rattle.std.proofs.Common.{◌∙◌}
use Rattle.ctl_reconfigure.proofs.Anys.{any-above}
use Rattle.ctl_reconfigure.proofs.blocking.reaches.Goals as goal

pub returns : goal.returns
returns c =
    c.any_from.ensures ∙ any-above c.args.numbers.now c.args.bound c.requires c.tell_rising.ensures.small
