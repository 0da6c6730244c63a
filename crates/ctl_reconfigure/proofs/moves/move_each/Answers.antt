use Rattle.std.proofs.Common.{◌∙◌, ◌<◌, length, set, get_or, ap, arith}
use Rattle.backfill_planner.specs.declared.Placed.{Placed}
use Rattle.ctl_reconfigure.specs.Moving.{placed_moved}
use Rattle.ctl_reconfigure.proofs.Walking.{length-walked, walked-all, walked-more}
use Rattle.ctl_reconfigure.proofs.moves.move_each.Goals as goal

pub loop-placed-preserved : goal.loop-placed-preserved
loop-placed-preserved c =
    let f = placed_moved c.args.places.now in
    let k = c.loop-placed.placed-index in
    let was = c.args.plan.now in
    let all = c.loop-placed.plan in
    let default = c.placed-item.result in
    let before = c.loop-placed.invariant in
    let inside : k < length was = omega (arith, c.loop-placed-test.true, ap length before, length-walked f k was) in
    ap (λ (placed : Placed). set all k placed) c.move_placed.ensures
    ∙ ap (λ xs. set xs k (f (get_or xs k default))) before ∙ walked-more f k was default inside

pub returns : goal.returns
returns c =
    let f = placed_moved c.args.places.now in
    let k = c.loop-placed.placed-index in
    let was = c.args.plan.now in
    let before = c.loop-placed.invariant in
    before ∙ walked-all f k was (omega (arith, c.loop-placed-test.false, ap length before, length-walked f k was))
