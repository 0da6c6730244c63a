use Rattle.std.proofs.Common.{◌≡◌, take}
use Rattle.ctl_reconfigure.specs.Names.{line_names}
use Rattle.ctl_reconfigure.proofs.names.line_names.Given as goal

abbrev pub invariant-loop-conf : goal.invariant-loop-conf
invariant-loop-conf l = l.names.items ≡ line_names (take l.conf-index l.confs)
