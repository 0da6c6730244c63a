-- Those so far that hold something of the node are found.
use Rattle.std.proofs.Common.{◌≡◌, ◌-◌, ◌≤◌, length, take}
use Rattle.std.specs.List.{filter}
use Rattle.ctl_node_side.specs.Ordering.{shown}
use Rattle.ctl_node_side.specs.Reporting.{is_at}
use Rattle.ctl_node_side.proofs.at_node.jobs_at.Given as goal

abbrev pub invariant-loop-place : goal.invariant-loop-place
invariant-loop-place l = record {
  found : shown l.found.items ≡ filter (is_at l.node) (take l.from l.jobs.records);
  within : l.from ≤ length l.jobs.records;
}

abbrev pub decreases-loop-place : goal.decreases-loop-place
decreases-loop-place l = length l.jobs.records - l.from
