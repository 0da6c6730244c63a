use Rattle.std.proofs.Common.{◌≡◌, map, take}
use Rattle.ctl_restore.specs.Restored as spec
use Rattle.ctl_restore.proofs.arrays.restored_arrays.Given as goal

abbrev pub invariant-loop-array : goal.invariant-loop-array
invariant-loop-array l = l.restored.items ≡ map spec.restored_array (take l.array-index l.arrays)
