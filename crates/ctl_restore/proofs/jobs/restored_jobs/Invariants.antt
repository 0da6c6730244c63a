use Rattle.std.proofs.Common.{◌≡◌, map, take}
use Rattle.ctl_state.specs.State.{state_of}
use Rattle.ctl_restore.specs.Restored as spec
use Rattle.ctl_restore.proofs.jobs.restored_jobs.Given as goal

abbrev pub invariant-loop-job : goal.invariant-loop-job
invariant-loop-job l = l.restored.items ≡ map (spec.restored_job (state_of l.cluster)) (take l.job-index l.jobs)
