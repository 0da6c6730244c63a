use Rattle.replay_report.specs.Outcomes.{left_with}
use Rattle.replay_report.proofs.Found.{one_more_at}
use Rattle.replay_report.proofs.outcomes.take_all_left.Goals as goal

pub loop-left-preserved : goal.loop-left-preserved
loop-left-preserved c =
    one_more_at (left_with c.args.jobs.now) c.args.left_out.now c.loop-left.left-index _ _ _ _ _ c.loop-left-test.true
    c.in_ok-outcome.ensures c.in_ok-push_some.ensures c.loop-left.invariant
