use Rattle.std.proofs.Common.{◌≡◌, ◌++◌, bytes_eq, take}
use Rattle.std.specs.Prelude.{filter_map, is_some}
use Rattle.std.specs.HashMap.{get}
use Rattle.ctl_reconfigure.specs.Reconfiguring.{leaves}
use Rattle.ctl_reconfigure.proofs.leaving.push_leaving.Given as goal

abbrev pub invariant-loop-node : goal.invariant-loop-node
invariant-loop-node l =
    l.all.items ≡ l.fn.all.items
    ++ filter_map (leaves (λ name. is_some (get bytes_eq l.lines name))) (take l.node-index l.nodes)
