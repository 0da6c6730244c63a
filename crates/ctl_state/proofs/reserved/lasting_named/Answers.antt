use Rattle.std.proofs.Common.{◌∙◌}
use Rattle.ctl_state.proofs.Lasting.{find_lasting}
use Rattle.ctl_state.proofs.reserved.lasting_named.Goals as goal

pub returns : goal.returns
returns c =
    c.first_lasting.ensures
    ∙ rw c.records.ensures.value (find_lasting c.args.now c.args.name.now c.args.reservations.now)
