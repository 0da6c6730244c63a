-- What comes of the plan of a pass.
use Rattle.std.specs.Prelude.{ℕ, List}
use Rattle.backfill_planner.specs.declared.Placed.{Placed}
use Rattle.ctl_state.specs.State.{State}
use Rattle.ctl_pass.specs.Readiness.{jobs_left, placements, ready}
use Rattle.ctl_pass.specs.Starting.{Started, due, started}

-- what comes of the plan
abbrev pub outcome : State → ℕ → Started
outcome s now = started s now (jobs_left s now) (placements s now)

-- the placements that start
abbrev pub placements_due : State → ℕ → List Placed
placements_due s now = due s now (jobs_left s now) (placements s now)

-- the state once they have started
abbrev pub begun_in : State → ℕ → State
begun_in s now = record (ready s now) { jobs = (outcome s now).jobs; plan = (outcome s now).stays }
