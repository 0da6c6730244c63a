use Rattle.std.proofs.Common.{◌≡◌, map, take}
use Rattle.ctl_saved.specs.Saving as spec
use Rattle.ctl_saved.proofs.jobs.saved_arrays.Given as goal

abbrev pub invariant-loop-array : goal.invariant-loop-array
invariant-loop-array l = l.saved.items ≡ map spec.saved_array (take l.array-index l.arrays)
