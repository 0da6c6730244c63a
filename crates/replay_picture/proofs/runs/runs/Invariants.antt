use Rattle.std.proofs.Common.{◌≡◌, ◌++◌, drop}
use Rattle.replay_picture.specs.Lanes.{continued, runs}
use Rattle.replay_picture.proofs.runs.runs.Given as goal

abbrev pub invariant-loop-place : goal.invariant-loop-place
invariant-loop-place l = l.found.items ++ continued l.run (drop l.place-index l.others) ≡ runs l.places
