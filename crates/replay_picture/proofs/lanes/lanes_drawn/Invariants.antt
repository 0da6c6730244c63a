use Rattle.std.proofs.Common.{◌≡◌, ◌++◌, drop}
use Rattle.replay_picture.specs.Lanes.{lanes_drawn}
use Rattle.replay_picture.proofs.lanes.lanes_drawn.Given as goal

abbrev pub invariant-loop-lane : goal.invariant-loop-lane
invariant-loop-lane l =
    (l.place ≡ l.lane-index)
    × (l.places.items ++ lanes_drawn l.stay l.wanted l.place (drop l.lane-index l.lanes)
    ≡ lanes_drawn l.stay l.fn.wanted 0 l.lanes)
