use Rattle.ctl_show.proofs.Gathered.{planned-more}
use Rattle.ctl_show.proofs.outlook.starts_of.Goals as goal

pub loop-placed-preserved : goal.loop-placed-preserved
loop-placed-preserved c = λ id.
    planned-more c.args.plan.now c.loop-placed.placed-index c.placed-item.result id _ _ c.requires.once
    c.loop-placed-test.true c.placed-item.is (c.loop-placed.invariant id)
    (rw c.new.ensures at (c.in_ok-insert.ensures.updates.0 id))
