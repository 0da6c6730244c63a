use Rattle.std.proofs.Common.{◌≡◌, length}
use Rattle.plain_data.specs.Rows.{has_id}
use Rattle.job_table.specs.Usage.{Charges}
use Rattle.job_table.specs.Walks.{walked}
use Rattle.ctl_nodes.specs.Failing.{ShowsJobs, after_loss}
use Rattle.ctl_nodes.proofs.failing.fail_jobs.Given as goal

abbrev pub invariant-loop-place : goal.invariant-loop-place
invariant-loop-place l = record {
  walk : l.jobs.records ≡ walked (after_loss l.now (has_id l.lost)) l.place l.fn.jobs.records;
  charges : Charges l.now l.fn.jobs l.jobs;
  end : l.place-end ≡ length l.fn.jobs.records;
  nodes : l.nodes.records ≡ l.fn.nodes.records;
  shown : ShowsJobs l.nodes.held l.jobs.records;
}
