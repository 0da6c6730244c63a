use Rattle.std.proofs.Common.{arith}
use Rattle.slurm_top.proofs.Inputs.{input_refused}
use Rattle.slurm_top.proofs.reading.read_input.Goals as goal

pub returns-in-Err-clause-read : goal.returns-in-Err-clause-read
returns-in-Err-clause-read g c =
    input_refused (g.L.Link.wire c.args.own.now) (g.L.Link.wire c.loop-piece.own) (g.L.Link.wire c.read_more.new.own)
    c.loop-piece.bytes.items c.read_more.new.bytes.items 0 c.in-Err.refusal c.loop-piece.invariant.consumed
    c.loop-piece.invariant.reads (omega (arith, c.loop-piece-test.true, c.len.ensures)) c.in-Err.ensures.brings
