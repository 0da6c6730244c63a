use Rattle.std.proofs.Common.{◌≡◌, false, take}
use Rattle.ctl_nodes.specs.Reserving.{are_held}
use Rattle.ctl_nodes.proofs.holding.are_held.Given as goal

abbrev pub invariant-loop-job : goal.invariant-loop-job
invariant-loop-job l = are_held l.now l.nodes l.start l.end (take l.job-index l.jobs) ≡ false
