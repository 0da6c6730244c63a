use Rattle.std.proofs.Common.{◌≡◌, drop, map}
use Rattle.job_table.specs.Table.{HaveRisingIds}
use Rattle.job_table.specs.Targets.{AreTogether}
use Rattle.job_table.specs.Usage.{Charges}
use Rattle.ctl_state.specs.State.{state_of}
use Rattle.ctl_jobs.specs.Changing.{are_naming, done_if}
use Rattle.ctl_jobs.proofs.changing.change_targets.Given as goal

abbrev pub invariant-loop-target : goal.invariant-loop-target
invariant-loop-target l = record {
  others : state_of l.cluster ≡ record (state_of l.fn.cluster) {
    jobs = l.cluster.jobs.records;
    usage = l.cluster.jobs.usage;
  };
  rest : map (done_if (state_of l.fn.cluster) l.moment l.user l.action (are_naming (drop l.target-index l.targets)))
      l.cluster.jobs.records
      ≡ map (done_if (state_of l.fn.cluster) l.moment l.user l.action (are_naming l.targets)) l.fn.cluster.jobs.records;
  charges : Charges l.moment l.fn.cluster.jobs l.cluster.jobs;
  held : l.cluster.nodes.held ≡ l.fn.cluster.nodes.held;
  rising : HaveRisingIds l.cluster.jobs.records;
  together : AreTogether l.cluster.jobs.records;
}
