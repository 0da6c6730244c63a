use Rattle.std.proofs.Common.{◌≡◌, ◌++◌, drop}
use Rattle.replay_picture.specs.Waiting.{steps_text}
use Rattle.replay_picture.proofs.waiting.push_steps.Given as goal

abbrev pub invariant-loop-place : goal.invariant-loop-place
invariant-loop-place l =
    l.out.items ++ steps_text l.period l.bottom l.most (drop l.place l.steps)
    ≡ l.fn.out.items ++ steps_text l.period l.bottom l.most l.steps
