use Rattle.std.proofs.Common.{◌≡◌, ◌-◌, ◌≤◌, length}
use Rattle.job_table.specs.Usage.{Charges}
use Rattle.job_table.specs.Walks.{walked}
use Rattle.ctl_node_side.specs.Leaving.{ShowsJobs}
use Rattle.ctl_node_side.specs.Reporting.{reported}
use Rattle.ctl_node_side.proofs.jobs.report_jobs.Given as goal

abbrev pub invariant-loop-place : goal.invariant-loop-place
invariant-loop-place l = record {
  walk : l.jobs.records ≡ walked (reported l.now l.node l.report) l.from l.fn.jobs.records;
  charges : Charges l.now l.fn.jobs l.jobs;
  within : l.from ≤ length l.fn.jobs.records;
  nodes : l.nodes.records ≡ l.fn.nodes.records;
  shown : ShowsJobs l.nodes.held l.jobs.records;
}

abbrev pub decreases-loop-place : goal.decreases-loop-place
decreases-loop-place l = length l.fn.jobs.records - l.from
