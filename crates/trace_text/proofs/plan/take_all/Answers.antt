use Rattle.std.proofs.Common.{◌<◌, ◌≤◌, length, arith}
use Rattle.trace_text.proofs.Taking.{all_were_handed, all_were_left, one_handed, one_left}
use Rattle.trace_text.proofs.plan.take_all.Goals as goal

pub loop-place-preserved : goal.loop-place-preserved
loop-place-preserved c =
    let within : c.loop-place.place < length c.args.jobs.now = omega arith in (
      one_handed c.args.taken c.args.jobs.now c.loop-place.place c.index-jobs-place.result _ _ _ within c.index-jobs-place.is
          c.in_ok-take.ensures.submissions c.loop-place.invariant.0,
      one_left c.args.taken c.args.jobs.now c.loop-place.place c.index-jobs-place.result _ _ _ within c.index-jobs-place.is
          c.in_ok-take.ensures.left_out c.loop-place.invariant.1,
    )

pub returns-clause-submissions : goal.returns-clause-submissions
returns-clause-submissions c =
    let all : length c.args.jobs.now ≤ c.loop-place.place = omega arith in
    all_were_handed c.args.taken c.args.jobs.now c.loop-place.place _ _ all c.loop-place.invariant.0

pub returns-clause-left_out : goal.returns-clause-left_out
returns-clause-left_out c =
    let all : length c.args.jobs.now ≤ c.loop-place.place = omega arith in
    all_were_left c.args.taken c.args.jobs.now c.loop-place.place _ _ all c.loop-place.invariant.1
