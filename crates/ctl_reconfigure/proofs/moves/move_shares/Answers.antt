use Rattle.std.proofs.Common.{◌∙◌, ◌<◌, length, ap, arith}
use Rattle.ctl_reconfigure.specs.Moving.{share_moved}
use Rattle.ctl_reconfigure.proofs.Walking.{length-walked, walked-all, walked-more}
use Rattle.ctl_reconfigure.proofs.moves.move_shares.Goals as goal

pub loop-share-preserved : goal.loop-share-preserved
loop-share-preserved c =
    let f = share_moved c.args.places.now in
    let k = c.loop-share.share-index in
    let was = c.args.shares.now in
    let before = c.loop-share.invariant in
    let inside : k < length was = omega (arith, c.loop-share-test.true, ap length before, length-walked f k was) in
    rw (c.place_moved-share.ensures, before) (walked-more f k was _ inside)

pub returns : goal.returns
returns c =
    let f = share_moved c.args.places.now in
    let k = c.loop-share.share-index in
    let was = c.args.shares.now in
    let before = c.loop-share.invariant in
    before ∙ walked-all f k was (omega (arith, c.loop-share-test.false, ap length before, length-walked f k was))
