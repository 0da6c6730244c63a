use Rattle.std.proofs.Common.{take, All}
use Rattle.ctl_restore.specs.Fits.{HasItsTasks}
use Rattle.ctl_restore.proofs.arrays.have_their_tasks.Given as goal

abbrev pub invariant-loop-array : goal.invariant-loop-array
invariant-loop-array l = All (HasItsTasks l.jobs) (take l.array-index l.arrays)
