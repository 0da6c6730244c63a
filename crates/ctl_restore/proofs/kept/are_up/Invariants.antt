use Rattle.std.proofs.Common.{take, All}
use Rattle.ctl_restore.specs.Steps.{IsOnUp}
use Rattle.ctl_restore.proofs.kept.are_up.Given as goal

abbrev pub invariant-loop-job : goal.invariant-loop-job
invariant-loop-job l = All (IsOnUp l.nodes.records) (take l.job-index l.jobs)
