use Rattle.plan_keeper.proofs.Stillness.{held-outside}
use Rattle.plan_keeper.proofs.unmoved.ends_outside.Goals as goal

pub returns-then-placed-le-LAST_START : goal.returns-then-placed-le-LAST_START
returns-then-placed-le-LAST_START c = λ is.
    rw c.in-Some.is (held-outside c.args.job.now c.in-Some.placed.now c.args.last c.args.hi (rw c.window_end.ensures at (c.is_outside.ensures is)))
