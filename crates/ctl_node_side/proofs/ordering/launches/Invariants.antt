use Rattle.std.proofs.Common.{◌≡◌, filter_map, take}
use Rattle.ctl_node_side.specs.Ordering.{launch_of, shown}
use Rattle.ctl_node_side.proofs.ordering.launches.Given as goal

abbrev pub invariant-loop-job : goal.invariant-loop-job
invariant-loop-job l = l.launches.items ≡ filter_map (launch_of l.node l.report) (take l.job-index (shown l.jobs))
