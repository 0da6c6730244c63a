use Rattle.std.proofs.Common.{take}
use Rattle.replay_report.proofs.HoursLemmas.{counts_more}
use Rattle.replay_report.proofs.hours.add_spans.Goals as goal

pub loop-span-preserved : goal.loop-span-preserved
loop-span-preserved c = λ none.
    counts_more c.args.first c.args.spans.now c.loop-span.span-index _ _ c.loop-span-test.true
    (c.add_span.ensures (take c.loop-span.span-index c.args.spans.now) (c.loop-span.invariant none))
