-- What the jobs so far hold is held besides.
use Rattle.std.proofs.Common.{◌≡◌, map, take, true}
use Rattle.ctl_state.specs.Holding.{parts_of}
use Rattle.ctl_state.specs.Planning.{room_of}
use Rattle.ctl_restore.specs.Steps.{Holds}
use Rattle.ctl_restore.proofs.holding.hold_jobs.Given as goal

abbrev pub invariant-loop-job : goal.invariant-loop-job
invariant-loop-job l = record {
  holds : Holds (map room_of l.fn.nodes.records) l.fn.nodes.held l.nodes.held (parts_of (take l.job-index l.jobs)) true;
  records : l.nodes.records ≡ l.fn.nodes.records;
}
