use Rattle.std.proofs.Common.{arith}
use Rattle.plain_data.proofs.Words.{has_id-or}
use Rattle.plain_data.proofs.row.CpuIds.insert_all.Goals as goal

pub returns : goal.returns
returns c = rw (← c.self.view_is, ← c.more.view_is) (has_id-or c.self.inside.words c.more.inside.words c.loop-place.self-inside.words (λ k inside. c.loop-place.invariant.0 k (omega arith)))
