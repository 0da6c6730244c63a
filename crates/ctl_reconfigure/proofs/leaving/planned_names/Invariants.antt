use Rattle.std.proofs.Common.{◌≡◌, ℕ, List, bytes_eq, take}
use Rattle.std.specs.HashSet.{contains}
use Rattle.node_state.specs.Reservations.{has}
use Rattle.ctl_reconfigure.specs.Reconfiguring as spec
use Rattle.ctl_reconfigure.proofs.leaving.planned_names.Given as goal

abbrev pub invariant-loop-placed : goal.invariant-loop-placed
invariant-loop-placed l = (name : List ℕ)
    → contains bytes_eq l.planned name ≡ has (spec.planned_names l.names (take l.placed-index l.plan)) name
