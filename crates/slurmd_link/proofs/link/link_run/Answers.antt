use Rattle.std.proofs.Common.{arith}
use Rattle.slurmd_link.specs.Turns.{scene}
use Rattle.slurmd_link.proofs.Turning.{begun, going_number, gone_on}
use Rattle.slurmd_link.proofs.link.link_run.Goals as goal

pub loop-made-init : goal.loop-made-init
loop-made-init g c =
    begun c.args.user.now (scene (g.L.Link.wire c.args.link.now) (g.C.Clock.moments c.args.clock.now) c.args.daemon.now)

pub turn-requires : goal.turn-requires
turn-requires g c =
    let number = going_number _ _ _ c.loop-made.made c.loop-made.place c.loop-made.invariant in
    omega (arith, number, c.requires, c.loop-made-test.true)

pub loop-made-preserved : goal.loop-made-preserved
loop-made-preserved g c =
    let (turn, turned, same) = c.in-Ok.ensures in
    gone_on c.args.user.now (scene (g.L.Link.wire c.args.link.now) (g.C.Clock.moments c.args.clock.now) c.args.daemon.now)
    (scene (g.L.Link.wire c.loop-made.link) (g.C.Clock.moments c.loop-made.clock) c.loop-made.daemon)
    (scene (g.L.Link.wire c.turn.new.link) (g.C.Clock.moments c.turn.new.clock) c.turn.new.daemon) c.loop-made.made
    c.loop-made.place c.in-Ok.size c.saturating_add-place.result c.loop-made.invariant turn turned same c.saturating_add-place.ensures
