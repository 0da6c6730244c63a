-- What a request makes is as large as the state before, and there is room for what is entered.
use Rattle.std.proofs.Common.{◌≡◌, Bool, true, false, Option, Some, None, ℕ, List, [], ◌∷◌, refl, if◌then◌else◌}
use Rattle.std.specs.List.{list_any}
use Rattle.std.specs.Prelude.{slice_get}
use Rattle.std.proofs.lemmas.Bool.{cond_both}
use Rattle.reply_data.specs.declared.refusal.Refusal.{Refusal}
use Rattle.request_data.specs.declared.request.Request.{Request}
use Rattle.request_data.specs.declared.report.Report.{Report as Told}
use Rattle.request_data.specs.declared.request.Request.TheVariants.{Submit, Cancel, Hold, Release, Requeue, UpdateJob, UpdateNode, UpdatePartition, CreateReservation, DeleteReservation, Report, Pass, Shutdown, Reconfigure, Show}
use Rattle.ctl_state.specs.State.{State}
use Rattle.ctl_state.specs.Refusals.{first_refusal, unless_refused}
use Rattle.ctl_state.specs.Verdicts.{Verdict, Refuses, Tells, Stays, Makes, reply_by, left_by}
use Rattle.ctl_node_side.specs.Answering.{is_restarted, node_of}
use Rattle.ctl_node_side.specs.Passes.{pass_is_idle}
use Rattle.ctl_node_side.specs.Restarting.{made_by_report, met}
use Rattle.ctl_node_side.specs.Silence.{any_silent, silenced}
use Rattle.ctl_jobs.specs.Submission.{made_under, basis_of}
use Rattle.ctl_jobs.specs.declared.action.Action.{Action}
use Rattle.ctl_jobs.specs.declared.action.Action.TheVariants as act
use Rattle.ctl_jobs.specs.Changing.{are_meant, are_naming, change_made, goes}
use Rattle.ctl_nodes.specs.Updating.{changes_any}
use Rattle.ctl_reconfigure.specs.Same.{is_same}
use Rattle.ctl_core.specs.Operating.{is_in_state, partition_made}
use Rattle.node_state.specs.Partitions.{place_meant}
use Rattle.job_table.specs.declared.record.JobRecord.{JobRecord}
use Rattle.ctl_core.specs.declared.reply.Answered.{Answered}
use Rattle.ctl_core.specs.Answering.{Answers}
use Rattle.ctl_core.specs.Sizes.{has_room}
use Rattle.ctl_core.specs.Step.{refusals_of, made, worked, unless_full, is_entered}

-- what a verdict makes has the size of the state before
abbrev pub KeepsSize : State → Verdict → Type 0
KeepsSize s (Refuses refusal) = Unit {0}
KeepsSize s (Tells view) = Unit {0}
KeepsSize s Stays = Unit {0}
KeepsSize s (Makes reply after) = after.size ≡ s.size

jobs-sized : (s : State) (moment : ℕ) (user : List ℕ) (action : Action) (named : JobRecord → Bool)
    → KeepsSize s (change_made s moment user action named)
jobs-sized s moment user action named =
    cond_both (list_any (goes s user action named) s.jobs) _ Stays (KeepsSize s) (λ some. refl) (λ none. tt)

-- what is lost takes no room
met-sized : (s : State) (moment node : ℕ) (report : Told) → (met s moment node report).size ≡ s.size
met-sized s moment node report =
    cond_both (is_restarted s report) _ s (λ (t : State). t.size ≡ s.size) (λ restarted. refl) (λ other. refl)

silenced-sized : (s : State) (moment : ℕ) → (silenced s moment).size ≡ s.size
silenced-sized s moment =
    cond_both (any_silent s moment) _ s (λ (t : State). t.size ≡ s.size) (λ some. refl) (λ none. refl)

made-sized : (s : State) (moment : ℕ) (user : List ℕ) (request : Request) → KeepsSize s (made s moment user request)
made-sized s moment user (Submit desc) =
    elim (basis_of s user desc) as (λ basis. KeepsSize s (made_under s moment user desc basis))
    [ None ↦ tt | Some basis ↦ refl ]
made-sized s moment user (Cancel targets) = jobs-sized s moment user act.Cancel (are_meant targets)
made-sized s moment user (Hold targets for_owner) = jobs-sized s moment user (act.Hold for_owner) (are_naming targets)
made-sized s moment user (Release targets) = jobs-sized s moment user act.Release (are_naming targets)
made-sized s moment user (Requeue target) = jobs-sized s moment user act.Requeue (are_naming (target ∷ []))
made-sized s moment user (UpdateJob target limit nice) =
    jobs-sized s moment user (act.Update limit nice) (are_naming (target ∷ []))
made-sized s moment user (UpdateNode nodes state) =
    cond_both (changes_any s nodes state) _ Stays (KeepsSize s) (λ some. refl) (λ none. tt)
made-sized s moment user (UpdatePartition name state) =
    elim (place_meant (Some name) s.partitions) as (λ place. KeepsSize s (partition_made s state place))
    [ None ↦ tt | Some place ↦ cond_both (is_in_state state (slice_get s.partitions place)) Stays _ (KeepsSize s) (λ had. tt) (λ out. refl) ]
made-sized s moment user (CreateReservation desc) = refl
made-sized s moment user (DeleteReservation name) = refl
made-sized s moment user Shutdown = refl
made-sized s moment user (Report report) =
    elim (node_of s report) as (λ node. KeepsSize s (made_by_report s moment report node))
    [ None ↦ tt | Some node ↦ met-sized s moment node report ]
made-sized s moment user Pass =
    cond_both (pass_is_idle s moment) Stays _ (KeepsSize s) (λ idle. tt) (λ busy. silenced-sized s moment)
made-sized s moment user (Reconfigure conf bytes) =
    cond_both (is_same s conf) Stays _ (KeepsSize s) (λ same. tt) (λ other. refl)
made-sized s moment user (Show query) = tt

full-sized : (s : State) (room : Bool) (verdict : Verdict) → KeepsSize s verdict
    → KeepsSize s (unless_full room verdict)
full-sized s true verdict sized = sized
full-sized s false (Refuses refusal) sized = tt
full-sized s false (Tells view) sized = tt
full-sized s false Stays sized = tt
full-sized s false (Makes reply after) sized = tt

judged-sized : (s : State) (refusal : Option Refusal) (verdict : Verdict) → KeepsSize s verdict
    → KeepsSize s (unless_refused refusal verdict)
judged-sized s None verdict sized = sized
judged-sized s (Some refusal) verdict sized = tt

pub worked-sized : (s : State) (moment : ℕ) (user : List ℕ) (request : Request)
    → KeepsSize s (worked s moment user request)
worked-sized s moment user request =
    judged-sized s (first_refusal (refusals_of s moment user request)) _
    (full-sized s (has_room s request) _ (made-sized s moment user request))

pub left-sized : (s : State) (verdict : Verdict) → KeepsSize s verdict → (left_by s verdict).size ≡ s.size
left-sized s (Refuses refusal) sized = refl
left-sized s (Tells view) sized = refl
left-sized s Stays sized = refl
left-sized s (Makes reply after) sized = sized

-- what is entered has room
full-entered : (room : Bool) (verdict : Verdict) → is_entered (reply_by (unless_full room verdict)) ≡ true → room ≡ true
full-entered true verdict entered = refl
full-entered false (Refuses refusal) entered = absurd (cc)
full-entered false (Tells view) entered = absurd (cc)
full-entered false Stays entered = absurd (cc)
full-entered false (Makes reply after) entered = absurd (cc)

judged-entered : (refusal : Option Refusal) (verdict : Verdict)
    → is_entered (reply_by (unless_refused refusal verdict)) ≡ true → is_entered (reply_by verdict) ≡ true
judged-entered None verdict entered = entered
judged-entered (Some refusal) verdict entered = absurd (cc)

pub worked-entered : (s : State) (moment : ℕ) (user : List ℕ) (request : Request)
    → is_entered (reply_by (worked s moment user request)) ≡ true → has_room s request ≡ true
worked-entered s moment user request entered =
    full-entered (has_room s request) (made s moment user request)
    (judged-entered (first_refusal (refusals_of s moment user request)) _ entered)

-- so what an answer leaves has the size of the state before
pub same-size : (s after : State) (moment : ℕ) (user : List ℕ) (request : Request) (answered : Answered)
    → Answers s after (worked s moment user request) answered → after.size ≡ s.size
same-size s after moment user request answered answers =
    let left = left-sized s (worked s moment user request) (worked-sized s moment user request) in
    rw answers.after
    (cond_both (is_entered answered.reply) (left_by s (worked s moment user request)) s (λ (t : State). t.size ≡ s.size)
    (λ entered. left) (λ other. refl))
