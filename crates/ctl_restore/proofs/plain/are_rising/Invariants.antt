-- Each number so far is above the one before it.
use Rattle.std.proofs.Common.{ℕ, ◌+◌, ◌<◌, ◌≤◌, get_or}
use Rattle.saved_data.specs.declared.job.SavedJob.{SavedJob}
use Rattle.ctl_restore.proofs.plain.are_rising.Given as goal

abbrev pub invariant-loop-place : goal.invariant-loop-place
invariant-loop-place l = record {
  some : 1 ≤ l.place;
  rises : (k : ℕ) (d : SavedJob) → k + 1 < l.place → (get_or l.jobs k d).id < (get_or l.jobs (k + 1) d).id;
}
