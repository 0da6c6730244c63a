use Rattle.std.proofs.Common.{sym}
use Rattle.ctl_reconfigure.proofs.Putting.{jobs-kept}
use Rattle.ctl_reconfigure.proofs.moves.move_jobs.Goals as goal

pub returns-in_default-clause-records : goal.returns-in_default-clause-records
returns-in_default-clause-records c = λ before now same are.
    jobs-kept before now c.args.jobs.now.records (sym (rw c.in_default.is at same))
