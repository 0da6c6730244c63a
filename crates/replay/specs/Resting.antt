-- Where events stop, for the proof alone.
use Rattle.std.specs.Prelude.{◌≡◌, ◌≤◌, ◌-◌, ◌*◌, ◌||◌, ℕ, true, List, Option, Some, None}
use Rattle.ctl_state.specs.State.{State}
use Rattle.trace_text.specs.declared.submission.Submission.{Submission}
use Rattle.replay.specs.declared.handing.Course.{Course}
use Rattle.replay.specs.declared.played.Played.{Played}
use Rattle.replay.specs.declared.replaying.Rest.{Rest}
use Rattle.replay.specs.declared.replaying.Stop.{Stop}
use Rattle.replay.specs.declared.pace.Pace.{Pace}
use Rattle.replay.specs.Replay.{HaveReported, Progress, Standing, leads_to, may_rest, most_events}

-- the replay that rests there
abbrev pub rested : List Played → Course → Stop → Progress
rested played course stop = record { played = played; course = course; left = stop.left; over = stop.over }

-- They lead to the same end from where they stopped, and may stop there.
pub record Stops (pace : Pace) (submissions : List Submission) (rest : Option Rest) (end : Option Standing)
    (s : State) (entries : ℕ) (played : List Played) (course : Course) (stop : Stop) : Type 0 where
  pub leads : leads_to pace submissions s (rested played course stop) ≡ end
  pub few : stop.left ≤ most_events
  pub reported : HaveReported (8 * (most_events - stop.left)) played
  pub rests : (stop.over || may_rest rest course.moment entries) ≡ true

-- where none is left they have no end
abbrev pub Stopped : Pace → List Submission → Option Rest → Option Standing → State → ℕ → List Played → Course → Option Stop
    → Type 0
Stopped pace submissions rest end s entries played course (Some stop) =
    Stops pace submissions rest end s entries played course stop
Stopped pace submissions rest end s entries played course None = end ≡ None
