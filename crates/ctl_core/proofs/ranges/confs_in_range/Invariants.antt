use Rattle.std.proofs.Common.{All, take}
use Rattle.ctl_reconfigure.specs.Files.{IsNodeConf}
use Rattle.ctl_core.proofs.ranges.confs_in_range.Given as goal

abbrev pub invariant-loop-node : goal.invariant-loop-node
invariant-loop-node l = All IsNodeConf (take l.node-index l.nodes)
