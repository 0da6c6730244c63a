use Rattle.std.proofs.Common.{◌≡◌, length}
use Rattle.job_table.specs.Usage.{Charges}
use Rattle.job_table.specs.Walks.{walked}
use Rattle.ctl_state.specs.State.{state_of}
use Rattle.ctl_jobs.specs.Changing.{done_if, is_owned}
use Rattle.ctl_jobs.proofs.changing.change_jobs_of.Given as goal

abbrev pub invariant-loop-place : goal.invariant-loop-place
invariant-loop-place l = record {
  walk : state_of l.cluster ≡ record (state_of l.fn.cluster) {
    jobs = walked (done_if (state_of l.fn.cluster) l.moment l.user l.action (is_owned l.owner)) l.place
        l.fn.cluster.jobs.records;
    usage = l.cluster.jobs.usage;
  };
  charges : Charges l.moment l.fn.cluster.jobs l.cluster.jobs;
  held : l.cluster.nodes.held ≡ l.fn.cluster.nodes.held;
  end : l.place-end ≡ length l.fn.cluster.jobs.records;
}
