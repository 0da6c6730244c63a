use Rattle.std.proofs.Common.{◌∙◌, ◌<◌, ℕ, List, length, set, get_or, ap, arith}
use Rattle.node_state.specs.Moving.{reservation_moved}
use Rattle.node_state.proofs.Moved.{length-walked, walked-all, walked-more}
use Rattle.node_state.proofs.reservations.move_all.Goals as goal

pub loop-reservation-preserved : goal.loop-reservation-preserved
loop-reservation-preserved c =
    let f = reservation_moved c.args.origins.now in
    let k = c.loop-reservation.reservation-index in
    let was = c.args.reservations.now in
    let all = c.loop-reservation.reservations in
    let default = c.reservation-item.result in
    let before = c.loop-reservation.invariant in
    let inside : k < length was = omega (arith, c.loop-reservation-test.true, ap length before, length-walked f k was) in
    ap (λ (nodes : List ℕ). set all k (record (get_or all k default) { nodes = nodes })) c.row_moved-reservation.ensures
    ∙ ap (λ xs. set xs k (f (get_or xs k default))) before ∙ walked-more f k was default inside

pub returns : goal.returns
returns c =
    let f = reservation_moved c.args.origins.now in
    let k = c.loop-reservation.reservation-index in
    let was = c.args.reservations.now in
    let before = c.loop-reservation.invariant in
    before ∙ walked-all f k was (omega (arith, c.loop-reservation-test.false, ap length before, length-walked f k was))
