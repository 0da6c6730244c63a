use Rattle.std.proofs.Common.{◌≡◌, ◌<◌, false, length, HoldsAt}
use Rattle.plain_data.specs.Rows.{has_id}
use Rattle.job_table.specs.declared.record.JobRecord.{JobRecord}
use Rattle.job_table.specs.JobStates.{is_running}
use Rattle.job_table.specs.Usage.{Charges}
use Rattle.job_table.specs.Walks.{map_at}
use Rattle.ctl_nodes.specs.Failing.{after_loss}
use Rattle.ctl_nodes.proofs.Walked.{count_at}
use Rattle.ctl_nodes.proofs.failing.leave_nodes.Given as goal

abbrev pub invariant-loop-node : goal.invariant-loop-node
invariant-loop-node l = record {
  there : l.place < length l.jobs.records;
  stopped : HoldsAt (λ (job : JobRecord). is_running job.state ≡ false) l.jobs.records l.place;
  rest : map_at l.place (after_loss l.now (has_id l.lost)) l.jobs.records
      ≡ map_at l.place (after_loss l.now (has_id l.lost)) l.fn.jobs.records;
  charges : Charges l.now l.fn.jobs l.jobs;
}

abbrev pub decreases-loop-node : goal.decreases-loop-node
decreases-loop-node l = count_at (λ (job : JobRecord). length job.parts) l.place l.jobs.records
