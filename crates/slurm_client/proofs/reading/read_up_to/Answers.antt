use Rattle.std.proofs.Common.{arith, length-take}
use Rattle.slurm_client.proofs.Filling.{filled_short, handed_on}
use Rattle.slurm_client.proofs.reading.read_up_to.Goals as goal

pub returns-in_err-read_more-clause-filled : goal.returns-in_err-read_more-clause-filled
returns-in_err-read_more-clause-filled g c =
    let e = c.in_err-read_more.field-0.0 in
    let so_far = c.loop-piece.invariant in
    rw (handed_on c.from_residual.result e c.from_residual.ensures.1)
    (filled_short (g.L.Link.wire c.args.link.now) (g.L.Link.wire c.loop-piece.link) (g.L.Link.wire c.read_more.new.link) _ _ _ _ _ e so_far.gains so_far.reads (omega arith) (omega (arith, length-take c.min-room.result c.loop-piece.piece)) c.in_err-read_more.ensures.brings)
