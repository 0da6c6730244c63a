use Rattle.std.proofs.Common.{arith}
use Rattle.std.proofs.Math.Seq.{take-add}
use Rattle.std.proofs.KnownBytes.{Appends-trans}
use Rattle.slurm_io.proofs.sink.write_all.Goals as goal

pub loop-done-preserved : goal.loop-done-preserved
loop-done-preserved g c =
    let (within, taken, faults, beside) = c.loop-done.invariant in
    let wrote = c.in_ok-done.ensures in (
      omega arith,
      rw take-add (Appends-trans _ _ _ _ _ taken (rw (← c.split_at.ensures.back) wrote.bytes)),
      cc,
      cc,
    )
