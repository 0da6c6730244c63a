use Rattle.std.proofs.Common.{◌≡◌, map, take}
use Rattle.ctl_restore.specs.Restored as spec
use Rattle.ctl_restore.proofs.plan.restored_placements.Given as goal

abbrev pub invariant-loop-placed : goal.invariant-loop-placed
invariant-loop-placed l =
    l.restored.items ≡ map (spec.restored_placed l.nodes.records l.gone.keys) (take l.placed-index l.plan)
