-- What holds of every replay.
use Rattle.std.specs.Prelude.{◌≡◌, ℕ, ◌≤◌, List, length, Some}
use Rattle.ctl_state.specs.State.{State}
use Rattle.trace_text.specs.declared.submission.Submission.{Submission}
use Rattle.replay.specs.declared.pace.Pace.{Pace}
use Rattle.replay.specs.Replay.{Standing, event, replayed}

-- the moments of events never fall
abbrev pub MomentsNeverFall : Type 0
MomentsNeverFall = (pace : Pace) (submissions : List Submission) (at : Standing)
    → at.moment ≤ (event pace submissions at).moment

-- each submission is answered, once
abbrev pub EachIsAnswered : Type 0
EachIsAnswered = (pace : Pace) (submissions : List Submission) (s : State) (end : Standing)
    → replayed pace submissions s ≡ Some end → length end.replies ≡ length submissions
