-- A row has a lane for each processor of its node. A run takes the lowest lanes that are free at its start.
use Rattle.std.specs.Prelude.{ℕ, ◌+◌, ◌-◌, ◌==◌, ◌&&◌, max, Bool, nat_lt, nat_le, if◌then◌else◌, List, [], ◌∷◌, ◌++◌}
use Rattle.replay_picture.specs.declared.lanes.Lane.{Lane}
use Rattle.replay_picture.specs.declared.lanes.Stay.{Stay}
use Rattle.replay_picture.specs.declared.runs.LaneRun.{LaneRun}

-- whether a run takes a lane, of which it still wants so many
abbrev pub takes : Stay → ℕ → Lane → Bool
takes stay wanted lane = nat_lt 0 wanted && nat_le lane.busy_until stay.start

-- how many it wants still behind a lane
abbrev pub wanted_behind : Stay → ℕ → Lane → ℕ
wanted_behind stay wanted lane = if takes stay wanted lane then wanted - 1 else wanted

-- a lane that is taken is busy until the end of the run, and drawn as far as that is
abbrev pub lane_behind : Stay → ℕ → Lane → Lane
lane_behind stay wanted lane =
    if takes stay wanted lane
    then record { busy_until = max lane.busy_until stay.end; drawn_until = max lane.drawn_until stay.right }
    else lane

-- the lanes behind a run that wants so many of them
abbrev pub lanes_behind : Stay → ℕ → List Lane → List Lane
lanes_behind stay wanted [] = []
lanes_behind stay wanted (lane ∷ lanes) =
    lane_behind stay wanted lane ∷ lanes_behind stay (wanted_behind stay wanted lane) lanes

-- A lane that it takes is drawn, but for one that is drawn as far already, by runs too short to tell apart.
abbrev pub lane_drawn : Stay → ℕ → ℕ → Lane → List ℕ
lane_drawn stay wanted place lane =
    if takes stay wanted lane && nat_lt lane.drawn_until stay.right then place ∷ [] else []

-- the places of the lanes that it is drawn in, of those from a place on
abbrev pub lanes_drawn : Stay → ℕ → ℕ → List Lane → List ℕ
lanes_drawn stay wanted place [] = []
lanes_drawn stay wanted place (lane ∷ lanes) =
    lane_drawn stay wanted place lane ++ lanes_drawn stay (wanted_behind stay wanted lane) (place + 1) lanes

-- neighbours are drawn as one: a run, with the places behind it
abbrev pub continued : LaneRun → List ℕ → List LaneRun
continued run [] = run ∷ []
continued run (place ∷ places) =
    if place == run.last + 1 then continued (record { first = run.first; last = place }) places
    else run ∷ continued (record { first = place; last = place }) places

abbrev pub runs : List ℕ → List LaneRun
runs [] = []
runs (place ∷ places) = continued (record { first = place; last = place }) places
