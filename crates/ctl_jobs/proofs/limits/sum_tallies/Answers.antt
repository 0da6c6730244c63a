-- No more is summed up than all tallies count.
use Rattle.std.proofs.Common.{arith}
use Rattle.job_table.specs.declared.unended.Unended.{Unended}
use Rattle.ctl_jobs.proofs.Unended.{pairs-fit}
use Rattle.ctl_jobs.proofs.limits.sum_tallies.Goals as goal

pub overflow_add-sum : goal.overflow_add-sum
overflow_add-sum c =
    let none : Unended = record { assoc = 0; qos = 0; count = 0 } in
    omega (
      arith,
      c.requires,
      c.loop-tally.invariant,
      pairs-fit c.args.assocs.now.records c.args.group c.args.tallies.now c.loop-tally.tally-index none
          c.loop-tally-test.true,
    )
