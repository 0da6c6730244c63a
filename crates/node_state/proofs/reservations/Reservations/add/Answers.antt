use Rattle.node_state.proofs.Beside.{one_more}
use Rattle.node_state.proofs.reservations.Reservations.add.Goals as goal

pub invariant_of-self-2 : goal.invariant_of-self-2
invariant_of-self-2 c =
    rw (c.push.ensures.items, c.unwrap.ensures, c.reserve.ensures.items)
    (one_more c.self.inside.records.items c.args.wanted c.self.invariant (rw (← c.self.view_is) at c.requires.fits))
