use Rattle.std.proofs.Common.{◌≡◌, ◌++◌, ◌+◌, ◌-◌, ◌*◌, ◌^◌, ◌<◌}
use Rattle.replay_picture.specs.Axis.{first_moment, marks_text}
use Rattle.replay_picture.proofs.axis.push_marks.Given as goal

abbrev pub invariant-loop : goal.invariant-loop
invariant-loop l = record {
  text : l.out.items ++ marks_text (8 - l.counter) l.nodes l.period l.moment
      ≡ l.fn.out.items ++ marks_text 8 l.nodes l.period (first_moment l.period);
  small : l.moment < 2 ^ 39 + l.counter * 2 ^ 36;
}
