use Rattle.std.proofs.Common.{◌≡◌, map, take}
use Rattle.std.specs.List.{filter}
use Rattle.ctl_node_side.specs.Ordering.{shown, start_of, stays}
use Rattle.ctl_node_side.proofs.ordering.kept_starts.Given as goal

abbrev pub invariant-loop-job : goal.invariant-loop-job
invariant-loop-job l =
    l.starts.items ≡ map start_of (filter (stays l.node l.report) (take l.job-index (shown l.jobs)))
