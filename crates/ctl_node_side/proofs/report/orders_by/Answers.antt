use Rattle.ctl_node_side.specs.Ordering.{orders_of}
use Rattle.ctl_node_side.proofs.report.orders_by.Goals as goal

pub returns : goal.returns
unfolding orders_of
returns c = λ now.
    let forgets = rw c.as_slice.ensures at c.in_ok-forgets.ensures in
    rw (c.in_ok-copy.ensures, c.in_ok-kills.ensures now, forgets, c.in_ok-launches.ensures)
