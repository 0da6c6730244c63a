use Rattle.std.proofs.Common.{◌≡◌, drop}
use Rattle.replay_picture.specs.Axis.{least_step}
use Rattle.replay_picture.proofs.axis.least_step.Given as goal

abbrev pub invariant-loop-step : goal.invariant-loop-step
invariant-loop-step l = least_step l.seventh (drop l.step-index l.steps) ≡ least_step l.seventh l.steps
