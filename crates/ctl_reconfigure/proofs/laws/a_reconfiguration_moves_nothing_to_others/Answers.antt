use Rattle.ctl_reconfigure.proofs.Naming.{jobs-names, partitions-names, reservations-names}
use Rattle.ctl_reconfigure.proofs.laws.a_reconfiguration_moves_nothing_to_others.Goals as goal

pub returns : goal.returns
returns c = record { parts = jobs-names; partitions = partitions-names; reservations = reservations-names }
