use Rattle.std.proofs.Common.{arith, sym}
use Rattle.replay.proofs.Due.{handed_on, none_due, none_left}
use Rattle.replay.proofs.handing.hand_in.Goals as goal

pub loop-submission-preserved : goal.loop-submission-preserved
loop-submission-preserved c = λ played.
    handed_on c.args.now c.loop-submission.submission-index c.args.submissions.now c.submission-item.result _ _ _
    c.loop-submission-test.true c.submission-item.is (omega arith) (c.in_ok-hand_in_one.ensures played)
    (c.loop-submission.invariant played)
