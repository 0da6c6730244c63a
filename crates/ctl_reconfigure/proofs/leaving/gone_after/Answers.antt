use Rattle.std.proofs.Common.{[], ◌&&◌, bytes_eq, not}
use Rattle.std.specs.Prelude.{is_some}
use Rattle.std.specs.HashMap.{get}
use Rattle.node_state.specs.Reservations.{has}
use Rattle.ctl_reconfigure.specs.Reconfiguring.{planned_names}
use Rattle.ctl_reconfigure.proofs.Growing.{filter-more}
use Rattle.ctl_reconfigure.proofs.leaving.gone_after.Goals as goal

pub loop-name-preserved : goal.loop-name-preserved
loop-name-preserved c =
    let name = c.name-item.result in
    filter-more (λ name. has (planned_names c.args.names.now c.args.plan.now) name
    && not (is_some (get bytes_eq c.args.lines.now name))) c.args.names.now
    c.loop-name.name-index name [] _ _ c.loop-name-test.true c.name-item.is c.loop-name.invariant
    (rw (c.in_ok-planned.ensures name) at c.in_ok-push_gone.ensures)
