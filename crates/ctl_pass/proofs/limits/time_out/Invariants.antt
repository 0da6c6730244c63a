use Rattle.std.proofs.Common.{◌≡◌}
use Rattle.job_table.specs.Usage.{Charges}
use Rattle.job_table.specs.Walks.{walked}
use Rattle.ctl_pass.specs.Limits.{timed_out}
use Rattle.ctl_pass.proofs.limits.time_out.Given as goal

-- the jobs so far are seen to, and the others are as they were
abbrev pub invariant-loop-place : goal.invariant-loop-place
invariant-loop-place l = record {
  records : l.jobs.records ≡ walked (timed_out l.now) l.place l.initial.jobs.records;
  charges : Charges l.now l.initial.jobs l.jobs;
}
