use Rattle.std.proofs.Common.{◌<◌, ◌≤◌, length, arith}
use Rattle.replay_texts.proofs.HourLines.{all_lines, one_line}
use Rattle.replay_texts.proofs.summary.push_hour_lines.Goals as goal

pub loop-place-preserved : goal.loop-place-preserved
loop-place-preserved c =
    let within : c.loop-place.place < length c.args.hours.now = omega arith in
    one_line c.args.capacity c.args.first c.args.hours.now c.loop-place.place _ _ _ _ within c.hour_start-start.ensures
    c.in_ok-push_hour.ensures c.loop-place.invariant

pub returns : goal.returns
returns c =
    let all : length c.args.hours.now ≤ c.loop-place.place = omega arith in
    all_lines c.args.capacity c.args.first c.args.hours.now c.loop-place.place _ _ all c.loop-place.invariant
