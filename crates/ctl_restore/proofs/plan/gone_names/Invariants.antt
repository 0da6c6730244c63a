-- The names of the plan so far.
use Rattle.std.proofs.Common.{◌≡◌, take}
use Rattle.ctl_restore.specs.Restored as spec
use Rattle.ctl_restore.proofs.plan.gone_names.Given as goal

abbrev pub invariant-loop-placed : goal.invariant-loop-placed
invariant-loop-placed l =
    l.gone.keys ≡ spec.gone_names l.nodes.records (take l.placed-index l.plan)
