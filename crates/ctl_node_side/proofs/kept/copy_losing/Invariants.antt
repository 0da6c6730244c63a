use Rattle.std.proofs.Common.{◌≡◌, filter, take}
use Rattle.plain_data.specs.Rows.{has_id}
use Rattle.ctl_nodes.specs.Failing.{loses}
use Rattle.ctl_node_side.proofs.kept.copy_losing.Given as goal

abbrev pub invariant-loop-job : goal.invariant-loop-job
invariant-loop-job l = l.copies.items ≡ filter (loses (has_id l.silent)) (take l.job-index l.jobs)
