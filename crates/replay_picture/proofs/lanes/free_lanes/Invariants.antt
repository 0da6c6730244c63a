use Rattle.std.proofs.Common.{◌≡◌, replicate}
use Rattle.replay_picture.specs.Nodes.{free_lane}
use Rattle.replay_picture.proofs.lanes.free_lanes.Given as goal

abbrev pub invariant-loop : goal.invariant-loop
invariant-loop l = l.lanes.items ≡ replicate l.counter free_lane
