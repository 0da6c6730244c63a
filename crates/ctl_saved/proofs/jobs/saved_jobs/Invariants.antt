use Rattle.std.proofs.Common.{◌≡◌, map, take}
use Rattle.ctl_saved.specs.Saving as spec
use Rattle.ctl_saved.proofs.jobs.saved_jobs.Given as goal

abbrev pub invariant-loop-job : goal.invariant-loop-job
invariant-loop-job l = l.saved.items ≡ map (spec.saved_job l.partitions l.nodes) (take l.job-index l.jobs)
