use Rattle.std.proofs.Common.{take, All, Any, ◌⊎◌}
use Rattle.saved_data.specs.declared.job.SavedJob.{SavedJob}
use Rattle.ctl_restore.specs.Fits.{IsLone, IsTaskOf}
use Rattle.ctl_restore.proofs.arrays.are_placed.Given as goal

abbrev pub invariant-loop-job : goal.invariant-loop-job
invariant-loop-job l = All (λ (job : SavedJob). IsLone job ⊎ Any (IsTaskOf job) l.arrays) (take l.job-index l.jobs)
