-- A replay that stopped on the way.
use Rattle.std.proofs.Common.{◌≡◌, ℕ, false, Option, Some, List, refl, subst, ◌∙◌}
use Rattle.ctl_state.specs.State.{State}
use Rattle.trace_text.specs.declared.submission.Submission.{Submission}
use Rattle.replay.specs.Replay.{Progress, Standing, events, leads_to, standing}
use Rattle.replay.specs.Resting.{Stopped, Stops, rested}
use Rattle.replay.specs.declared.handing.Course.{Course}
use Rattle.replay.specs.declared.pace.Pace.{Pace}
use Rattle.replay.specs.declared.played.Played.{Played}
use Rattle.replay.specs.declared.replaying.Rest.{Rest}
use Rattle.replay.specs.declared.replaying.Stop.{Stop}

-- from where it stopped it leads to where it did before
pub from_stop : (pace : Pace) (submissions : List Submission) (rest : Option Rest) (s s' : State) (entries : ℕ)
    (progress : Progress) (old new : List Played) (course : Course) (stopped : Option Stop) (stop : Stop)
    → progress.over ≡ false → old ≡ progress.played → stopped ≡ Some stop
    → Stopped pace submissions rest (events progress.left pace submissions (standing s old progress.course)) s' entries new course stopped
    → leads_to pace submissions s' (rested new course stop) ≡ leads_to pace submissions s progress
unfolding leads_to
from_stop pace submissions rest s s' entries progress old new course stopped stop more same is stops =
    let end : Option Standing = events progress.left pace submissions (standing s old progress.course) in
    let Ends : Option Stop → Type 0 = λ o. Stopped pace submissions rest end s' entries new course o in
    let at_stop : Stops pace submissions rest end s' entries new course stop = subst Ends is stops in
    at_stop.leads ∙ rw (more, same) refl
