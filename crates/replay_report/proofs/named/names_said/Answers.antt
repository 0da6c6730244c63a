use Rattle.replay_report.specs.Named.{name_of}
use Rattle.replay_report.specs.declared.outcome.JobOutcome.{JobOutcome}
use Rattle.replay_report.proofs.Found.{one_more}
use Rattle.replay_report.proofs.named.names_said.Goals as goal

pub loop-outcome-preserved : goal.loop-outcome-preserved
loop-outcome-preserved c =
    one_more (λ (outcome : JobOutcome). name_of c.args.kind outcome.names) c.args.outcomes.now c.loop-outcome.outcome-index c.outcome-item.result _ _ _
    c.loop-outcome-test.true c.outcome-item.is c.in_ok-name.ensures c.in_ok-push_some.ensures c.loop-outcome.invariant
