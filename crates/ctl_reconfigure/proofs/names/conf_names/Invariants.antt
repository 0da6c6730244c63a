use Rattle.std.proofs.Common.{◌≡◌, take}
use Rattle.ctl_reconfigure.specs.Names.{conf_names}
use Rattle.ctl_reconfigure.proofs.names.conf_names.Given as goal

abbrev pub invariant-loop-conf : goal.invariant-loop-conf
invariant-loop-conf l = l.names.items ≡ conf_names (take l.conf-index l.confs)
