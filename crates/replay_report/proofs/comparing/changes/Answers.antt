use Rattle.std.proofs.Common.{◌<◌, ◌≤◌, length, arith}
use Rattle.replay_report.proofs.Compared.{all_compared, one_compared}
use Rattle.replay_report.proofs.comparing.changes.Goals as goal

pub loop-place-preserved : goal.loop-place-preserved
loop-place-preserved c =
    let within : c.loop-place.place < length c.args.before.now = omega arith in
    one_compared c.args.after.now c.args.before.now c.loop-place.place c.index-before-place.result _ _ _ within c.index-before-place.is
    c.in_ok-take_change.ensures c.loop-place.invariant

pub returns : goal.returns
returns c =
    let all : length c.args.before.now ≤ c.loop-place.place = omega arith in
    all_compared c.args.after.now c.args.before.now c.loop-place.place _ _ all c.loop-place.invariant
