use Rattle.std.proofs.Common.{length, ◌+◌, get_or, ap, ◌∙◌, arith, count_ones}
use lib.Count.{ones-le}
use Rattle.plain_data.proofs.Words.{count-more, count-all}
use Rattle.plain_data.proofs.row.CpuIds.len.Goals as goal

pub loop-word-preserved : goal.loop-word-preserved
loop-word-preserved c = (rw (count-more c.self.inside.words c.loop-word.word-index (c.tell_words.ensures c.loop-word.word-index)) (ap (λ n. n + count_ones (get_or c.self.inside.words c.loop-word.word-index 0)) c.loop-word.invariant.0), omega (arith, ones-le 64 _ (c.tell_words.ensures c.loop-word.word-index)))

pub returns-clause-value : goal.returns-clause-value
returns-clause-value c = c.loop-word.invariant.0 ∙ count-all c.self.inside.words c.loop-word.word-index (omega arith) ∙ ap length c.self.view_is
