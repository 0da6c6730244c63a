use Rattle.std.proofs.Common.{◌≡◌, take}
use Rattle.ctl_server.specs.Daemons.{daemons_of}
use Rattle.ctl_server.proofs.daemons.start_daemons.Given as goal

-- the daemons of the nodes so far
abbrev pub invariant-loop-node : goal.invariant-loop-node
invariant-loop-node l = l.daemons.items ≡ daemons_of (take l.node-index l.nodes)
