use Rattle.std.proofs.Common.{◌≡◌, suc, ◌+◌, ◌-◌, ◌++◌, ap, arith}
use Rattle.replay_picture.specs.Axis.{marks_text}
use Rattle.replay_picture.proofs.Marks.{marks_end, marks_go_on}
use Rattle.replay_picture.proofs.axis.push_marks.Goals as goal

pub loop-init : goal.loop-init
loop-init c = record {
  text = ap (λ m. c.args.out.now.items ++ marks_text 8 c.args.nodes c.args.period.now m) c.first_moment-moment.ensures.is;
  small = omega (arith, c.first_moment-moment.ensures.small);
}

pub loop-preserved : goal.loop-preserved
loop-preserved c =
    let more : 8 - c.loop.counter ≡ suc (8 - (c.loop.counter + 1)) = omega (arith, c.loop-test.true) in
    record {
      text = marks_go_on _ _ c.loop.moment _ _ _ _ _ _ more c.in_ok-push_mark_within.ensures
          (ap (λ s. c.loop.moment + s) c.step_of-step.ensures.is) c.loop.invariant.text;
      small = omega (arith, c.loop.invariant.small, c.step_of-step.ensures.small.1);
    }

pub returns : goal.returns
returns c =
    let none : 8 - c.loop.counter ≡ 0 = omega (arith, c.loop-test.false) in
    marks_end _ _ _ _ _ _ none c.loop.invariant.text
