use Rattle.run_limits.proofs.Way.{above_falls}
use Rattle.run_limits.proofs.assocs.Assocs.above.Goals as goal

pub returns-clause-falling : goal.returns-clause-falling
returns-clause-falling c =
    rw (c.way_up.ensures, c.as_slice.ensures.value)
    (above_falls c.self.inside.records.items c.self.invariant.0 c.args.place)
