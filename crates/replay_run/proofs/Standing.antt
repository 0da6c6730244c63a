-- How replays may stand.
use Rattle.std.proofs.Common.{◌≡◌, ℕ, true, inl, inr, Result, Ok, Err, IfOk, List, sym, ap, ◌∙◌, subst}
use Rattle.ctl_desk.specs.Desk.{Seat, state_of}
use Rattle.ctl_saved.specs.Saving.{saved_of}
use Rattle.ctl_state.specs.State.{State}
use Rattle.cluster_opening.specs.Cluster.{opening_in}
use Rattle.cluster_opening.specs.Files.{fresh}
use Rattle.cluster_opening.specs.Renewing.{IsReopened}
use Rattle.trace_text.specs.declared.job.TraceJob.{TraceJob}
use Rattle.reply_data.specs.declared.reply.Reply.{Reply}
use Rattle.trace_text.specs.declared.plan.ReplayPlan.{ReplayPlan}
use Rattle.trace_text.specs.declared.submission.Submission.{Submission}
use Rattle.replay.specs.Replay.{Progress, leads_to, replayed}
use Rattle.replay.specs.declared.pace.Pace.{Pace}
use Rattle.replay_report.specs.Outcomes.{all_outcomes}
use Rattle.replay_run.specs.Replays.{HasCome, MayBeLookedAt, MayStand, Begun, LookedAt, Renewed, WentOn}
use Rattle.replay_run.specs.declared.working.Worked.{Worked}

-- it begins at a desk of its own
pub set_so : (conf assocs : List ℕ) (pace : Pace) (submissions : List Submission) (opening s : State) (seat : Seat)
    (progress : Progress) → opening_in conf assocs ≡ Ok opening → seat ≡ fresh opening
    → leads_to pace submissions s progress ≡ replayed pace submissions (state_of seat)
    → MayStand conf assocs pace submissions s progress
set_so conf assocs pace submissions opening s seat progress opens is leads =
    Begun opening s progress opens (leads ∙ ap (λ (t : Seat). replayed pace submissions (state_of t)) is)

looked : (conf assocs : List ℕ) (pace : Pace) (submissions : List Submission) (s s' : State) (progress : Progress)
    → MayStand conf assocs pace submissions s progress → MayBeLookedAt s s'
    → MayStand conf assocs pace submissions s' progress
looked conf assocs pace submissions s s' progress stands look = elim look [
  | inl same ↦ subst (λ t. MayStand conf assocs pace submissions t progress) (sym same) stands
  | inr was ↦ LookedAt s s' progress stands was
]

-- an event was made, and it may have been looked at
pub goes_further : (conf assocs : List ℕ) (pace : Pace) (submissions : List Submission) (s0 s1 s2 : State)
    (before after : Progress) → MayStand conf assocs pace submissions s0 before
    → leads_to pace submissions s1 after ≡ leads_to pace submissions s0 before
    → MayBeLookedAt s1 s2 → MayStand conf assocs pace submissions s2 after
goes_further conf assocs pace submissions s0 s1 s2 before after stands leads look =
    looked conf assocs pace submissions s1 s2 after (WentOn s0 s1 before after stands leads) look

-- it goes on at a new book, which opens as the cluster stands
pub renewed_so : (conf assocs : List ℕ) (pace : Pace) (submissions : List Submission) (s opening : State) (seat : Seat)
    (progress : Progress) → MayStand conf assocs pace submissions s progress
    → IsReopened conf assocs (saved_of s) opening → seat ≡ fresh opening
    → MayStand conf assocs pace submissions (state_of seat) progress
renewed_so conf assocs pace submissions s opening seat progress stands reopened is =
    subst (λ (t : State). MayStand conf assocs pace submissions t progress)
    (sym (ap (λ (t : Seat). state_of t) is)) (Renewed s opening progress stands reopened)

-- what is told of it where it is over
pub came_so : {E : Type 0} (conf assocs : List ℕ) (pace : Pace) (jobs : List TraceJob) (plan : ReplayPlan) (s : State)
    (progress : Progress) (result : Result Worked E) → MayStand conf assocs pace plan.submissions.items s progress
    → progress.over ≡ true
    → IfOk result (λ (worked : Worked). (shown : Reply) × (worked.outcomes.items
    ≡ all_outcomes jobs plan.submissions.items plan.left_out.items progress.course.replies.items shown))
    → IfOk result (λ (worked : Worked). HasCome conf assocs pace jobs plan worked.outcomes.items)
came_so conf assocs pace jobs plan s progress (Ok worked) stands over told =
    record { state = s; progress = progress; stands = stands; over = over; shown = told.0; are = told.1 }
came_so conf assocs pace jobs plan s progress (Err refusal) stands over told = tt
