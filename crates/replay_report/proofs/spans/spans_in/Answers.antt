use Rattle.replay_report.specs.Spans.{span_of}
use Rattle.replay_report.proofs.Found.{one_more}
use Rattle.replay_report.proofs.spans.spans_in.Goals as goal

pub loop-outcome-preserved : goal.loop-outcome-preserved
loop-outcome-preserved c =
    one_more span_of c.args.outcomes.now c.loop-outcome.outcome-index c.outcome-item.result _ _ _ c.loop-outcome-test.true
    c.outcome-item.is c.span_of-span.ensures c.in_ok-push_span.ensures c.loop-outcome.invariant
