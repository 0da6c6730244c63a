use Rattle.ctl_reconfigure.proofs.Refused.{unblocked}
use Rattle.ctl_reconfigure.proofs.Sound.{sound-after}
use Rattle.ctl_reconfigure.proofs.laws.a_reconfiguration_keeps_all_sound.Goals as goal

pub returns : goal.returns
returns c = λ s moment user conf sound later in_time file none.
    sound-after c.opened_partitions_are_on_nodes.ensures s moment conf sound later in_time file
    (unblocked s user conf none)
