use Rattle.std.proofs.Common.{◌≡◌, bytes_eq, take}
use Rattle.std.specs.Prelude.{is_some}
use Rattle.std.specs.HashMap.{get}
use Rattle.node_state.specs.Reservations.{has}
use Rattle.ctl_reconfigure.specs.Reconfiguring.{gone_by, planned_names}
use Rattle.ctl_reconfigure.proofs.leaving.gone_after.Given as goal

abbrev pub invariant-loop-name : goal.invariant-loop-name
invariant-loop-name l =
    l.gone.items ≡ gone_by (λ name. is_some (get bytes_eq l.lines name)) (has (planned_names l.names l.plan)) (take l.name-index l.names)
