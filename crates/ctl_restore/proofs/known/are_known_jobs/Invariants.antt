use Rattle.std.proofs.Common.{take, All}
use Rattle.ctl_state.specs.State.{state_of}
use Rattle.ctl_restore.specs.Fits.{IsKnownJob}
use Rattle.ctl_restore.proofs.known.are_known_jobs.Given as goal

abbrev pub invariant-loop-job : goal.invariant-loop-job
invariant-loop-job l = All (IsKnownJob (state_of l.cluster)) (take l.job-index l.jobs)
