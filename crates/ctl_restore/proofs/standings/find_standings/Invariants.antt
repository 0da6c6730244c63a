-- How the dropped nodes so far would stand.
use Rattle.std.proofs.Common.{◌≡◌, ◌++◌, map, take}
use Rattle.ctl_restore.specs.Restored.{came_back}
use Rattle.ctl_restore.proofs.standings.find_standings.Given as goal

abbrev pub invariant-loop-node : goal.invariant-loop-node
invariant-loop-node l =
    l.lines.items ≡ l.saved.nodes ++ map (came_back l.saved.moment) (take l.node-index l.saved.dropped)
