use Rattle.std.proofs.Common.{◌≡◌, filter, take}
use Rattle.ctl_restore.specs.Restored.{is_gone}
use Rattle.ctl_restore.proofs.standings.still_dropped.Given as goal

abbrev pub invariant-loop-node : goal.invariant-loop-node
invariant-loop-node l = l.still.items ≡ filter (is_gone l.nodes.records) (take l.node-index l.dropped)
