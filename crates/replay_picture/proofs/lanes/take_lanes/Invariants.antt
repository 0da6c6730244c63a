use Rattle.replay_picture.proofs.Taken.{IsTaking}
use Rattle.replay_picture.proofs.lanes.take_lanes.Given as goal

abbrev pub invariant-loop-lane : goal.invariant-loop-lane
invariant-loop-lane l = IsTaking l.stay l.fn.wanted l.wanted l.fn.lanes l.lanes l.lane-index
