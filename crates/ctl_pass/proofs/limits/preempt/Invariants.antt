use Rattle.std.proofs.Common.{◌≡◌, map, take}
use Rattle.job_table.specs.Usage.{Charges}
use Rattle.ctl_pass.specs.Preempting.{preempted}
use Rattle.ctl_pass.proofs.limits.preempt.Given as goal

-- those so far have left Running, and their associations are charged
abbrev pub invariant-loop-id : goal.invariant-loop-id
invariant-loop-id l = record {
  records : l.jobs.records ≡ map (preempted l.now (take l.id-index l.gone)) l.initial.jobs.records;
  charges : Charges l.now l.initial.jobs l.jobs;
}
