use Rattle.std.proofs.Common.{refl}
use Rattle.ctl_state.proofs.Choosing.{any-among, first-once}
use Rattle.ctl_state.proofs.job_nodes.nodes_among.Goals as goal

pub returns-then-takes_any : goal.returns-then-takes_any
returns-then-takes_any c =
    rw (any-among c.args.nodes.now c.args.terms.now c.args.order.now (c.if-takes_any.ensures.0 refl) c.requires)
    c.share.ensures

pub from_vec-requires-2 : goal.from_vec-requires-2
from_vec-requires-2 c =
    rw (c.in_ok-required_first.ensures, c.deref-2.ensures.value, c.in_ok-places.ensures)
    (first-once c.args.nodes.now c.args.terms.now c.as_slice.result.now c.as_slice.ensures.once)
