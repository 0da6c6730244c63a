use Rattle.std.specs.Prelude.{filter_map, slice_get}
use Rattle.backfill_planner.specs.declared.Placed.{Placed}
use Rattle.backfill_planner.specs.declared.Share.{Share}
use Rattle.ctl_reconfigure.proofs.Growing.{joined-more}
use Rattle.ctl_reconfigure.proofs.leaving.planned_names.Goals as goal

pub loop-placed-preserved : goal.loop-placed-preserved
loop-placed-preserved c = λ name.
    joined-more (λ (placed : Placed). filter_map (λ (share : Share). slice_get c.args.names.now share.node) placed.parts)
    c.args.plan.now c.loop-placed.placed-index c.placed-item.result name _ _ c.loop-placed-test.true c.placed-item.is
    (c.loop-placed.invariant name)
    (rw c.as_slice.ensures at (c.in_ok-add_shares.ensures name))
