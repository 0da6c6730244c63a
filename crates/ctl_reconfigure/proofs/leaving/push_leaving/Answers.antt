use Rattle.std.proofs.Common.{bytes_eq}
use Rattle.std.specs.Prelude.{is_some}
use Rattle.std.specs.HashMap.{get}
use Rattle.ctl_reconfigure.specs.Reconfiguring.{leaves}
use Rattle.ctl_reconfigure.proofs.Growing.{given-more}
use Rattle.ctl_reconfigure.proofs.leaving.push_leaving.Goals as goal

pub loop-node-preserved : goal.loop-node-preserved
loop-node-preserved c =
    given-more (leaves (λ name. is_some (get bytes_eq c.args.lines.now name))) c.args.nodes.now c.loop-node.node-index
    c.node-item.result _ _ _ _ c.loop-node-test.true c.node-item.is c.in_ok-leaves.ensures c.loop-node.invariant
    c.in_ok-push_found.ensures
