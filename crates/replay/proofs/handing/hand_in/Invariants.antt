use Rattle.std.proofs.Common.{◌≡◌, List, drop}
use Rattle.ctl_desk.specs.Desk.{state_of}
use Rattle.replay.specs.Replay.{standing, with_due}
use Rattle.replay.specs.declared.played.Played.{Played}
use Rattle.replay.proofs.handing.hand_in.Given as goal

-- what is left leads to where all does
abbrev pub invariant-loop-submission : goal.invariant-loop-submission
invariant-loop-submission l = (played : List Played)
    → with_due l.now (standing (state_of l.desk) played l.course) (drop l.submission-index l.submissions)
    ≡ with_due l.now (standing (state_of l.fn.desk) played l.fn.course) l.submissions
