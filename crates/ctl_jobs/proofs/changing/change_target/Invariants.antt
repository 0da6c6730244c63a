use Rattle.std.proofs.Common.{◌≡◌, ◌≤◌, length}
use Rattle.job_table.specs.Targets.{is_named}
use Rattle.job_table.specs.Usage.{Charges}
use Rattle.job_table.specs.Walks.{walked}
use Rattle.ctl_state.specs.State.{state_of}
use Rattle.ctl_jobs.specs.Changing.{done_where}
use Rattle.ctl_jobs.proofs.changing.change_target.Given as goal

abbrev pub invariant-loop-place : goal.invariant-loop-place
invariant-loop-place l = record {
  walk : state_of l.cluster ≡ record (state_of l.fn.cluster) {
    jobs = walked (λ job. done_where (state_of l.fn.cluster) l.moment l.user l.action (is_named l.target job) job)
        l.place l.fn.cluster.jobs.records;
    usage = l.cluster.jobs.usage;
  };
  charges : Charges l.moment l.fn.cluster.jobs l.cluster.jobs;
  held : l.cluster.nodes.held ≡ l.fn.cluster.nodes.held;
  end : l.place-end ≤ length l.fn.cluster.jobs.records;
}
