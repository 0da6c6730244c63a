use Rattle.std.proofs.Common.{◌<◌, ◌≤◌, length, arith}
use Rattle.replay_report.proofs.Handed.{all_handed, one_handed}
use Rattle.replay_report.proofs.outcomes.take_all_handed.Goals as goal

pub loop-place-preserved : goal.loop-place-preserved
loop-place-preserved c =
    let within : c.loop-place.place < length c.args.submissions.now = omega arith in
    one_handed c.args.jobs.now c.args.replies.now c.args.submissions.now c.loop-place.place c.index-submissions-place.result _ _ _ _ _ _
    within c.index-submissions-place.is c.reply_at-reply.ensures c.rows_told-left.ensures c.in_ok-take_told.ensures c.loop-place.invariant

pub returns : goal.returns
returns c =
    let all : length c.args.submissions.now ≤ c.loop-place.place = omega arith in
    all_handed c.args.jobs.now c.args.replies.now c.args.submissions.now c.loop-place.place _ _ _ _ all c.loop-place.invariant
