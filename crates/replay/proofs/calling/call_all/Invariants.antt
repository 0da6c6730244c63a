use Rattle.replay.proofs.Called.{IsCalling}
use Rattle.replay.proofs.calling.call_all.Given as goal

abbrev pub invariant-loop-place : goal.invariant-loop-place
invariant-loop-place l = IsCalling l.rows l.fn.played l.played l.place
