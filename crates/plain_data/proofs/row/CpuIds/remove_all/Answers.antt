use Rattle.std.proofs.Common.{arith}
use Rattle.plain_data.proofs.Words.{has_id-and_not}
use Rattle.plain_data.proofs.row.CpuIds.remove_all.Goals as goal

pub returns : goal.returns
returns c = rw (← c.self.view_is, ← c.gone.view_is) (has_id-and_not c.self.inside.words c.gone.inside.words c.loop-place.self-inside.words c.tell_words.ensures (λ k inside. c.loop-place.invariant.0 k (omega arith)))
