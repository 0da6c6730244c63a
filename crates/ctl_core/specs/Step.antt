-- One step of the controller: the reply to a request, and the state after it.
use Rattle.std.specs.Prelude.{◌≡◌, ℕ, ◌+◌, Bool, true, false, ◌&&◌, not, if◌then◌else◌, nat_lt, max, min, List, [], ◌∷◌, Option, Some, None, IfSome}
use Rattle.request_data.specs.declared.request.Request.{Request}
use Rattle.request_data.specs.declared.request.Request.TheVariants.{Submit, Cancel, Hold, Release, Requeue, UpdateJob, UpdateNode, UpdatePartition, CreateReservation, DeleteReservation, Report, Pass, Shutdown, Reconfigure, Show}
use Rattle.reply_data.specs.declared.refusal.Refusal.{Refusal}
use Rattle.reply_data.specs.declared.refusal.Refusal.TheVariants.{HistoryFull, MomentTooLarge, ShuttingDown}
use Rattle.reply_data.specs.declared.reply.Reply.{Reply}
use Rattle.reply_data.specs.declared.reply.Reply.TheVariants.{Submitted, Done, Passed, Orders, Idle, Shown, Refused}
use Rattle.backfill_planner.specs.Plans.{PlannedView}
use Rattle.node_state.specs.Partitions.{place_meant}
use Rattle.ctl_state.specs.State.{State, last_moment}
use Rattle.ctl_state.specs.Soundness.{IsAsked, IsLimit, IsSound}
use Rattle.ctl_state.specs.Refusals.{refused_if, first_refusal, unless_refused, is_privileged}
use Rattle.ctl_state.specs.Verdicts.{Verdict, Refuses, Tells, Makes, reply_by, left_by, stamped}
use Rattle.ctl_pass.specs.Passing.{pass_refusals}
use Rattle.ctl_node_side.specs.Answering.{report_refusals}
use Rattle.ctl_node_side.specs.Passes.{IsPassedOver, after_pass, made_by_pass, pass_input, planned_by_pass}
use Rattle.ctl_node_side.specs.Restarting.{report_made}
use Rattle.ctl_jobs.specs.Submission.{submit_refusals, submit_made}
use Rattle.ctl_jobs.specs.declared.action.Action.TheVariants as act
use Rattle.ctl_nodes.specs.Updating.{update_after, update_made, update_refusals}
use Rattle.ctl_nodes.specs.Reserving.{create_made, create_refusals, delete_made, delete_refusals}
use Rattle.ctl_reconfigure.specs.Files.{IsFile}
use Rattle.ctl_reconfigure.specs.Reconfiguring.{reconfigure_made, reconfigured}
use Rattle.ctl_reconfigure.specs.Refusing.{reconfigure_refusals}
use Rattle.ctl_jobs.specs.Changing.{are_meant, are_naming, cancel_refusals, change_after, change_made, refusals}
use Rattle.ctl_show.specs.Showing.{show_refusals, view_of}
use Rattle.ctl_core.specs.Operating.{partition_after, partition_made, partition_refusals, shut, shutdown_refusals}
use Rattle.ctl_core.specs.Sizes.{has_room, size_of}

-- the moment of a request: the one handed in, or the last one where that is later
abbrev pub raised : State → ℕ → ℕ
raised s now = max s.moment now

-- a controller that was shut down only shows things
abbrev pub is_closed : State → Request → Bool
is_closed s (Show query) = false
is_closed s request = s.is_shut

-- why a user's request may be refused at a moment that is none too large, in their order
abbrev pub refusals_of : State → ℕ → List ℕ → Request → List (Option Refusal)
refusals_of s moment user (Submit desc) = submit_refusals s moment user desc
refusals_of s moment user (Cancel targets) = cancel_refusals s user targets
refusals_of s moment user (Hold targets for_owner) = refusals s user (act.Hold for_owner) targets
refusals_of s moment user (Release targets) = refusals s user act.Release targets
refusals_of s moment user (Requeue target) = refusals s user act.Requeue (target ∷ [])
refusals_of s moment user (UpdateJob target limit nice) = refusals s user (act.Update limit nice) (target ∷ [])
refusals_of s moment user (UpdateNode nodes state) = update_refusals s user nodes
refusals_of s moment user (UpdatePartition name state) = partition_refusals s user name
refusals_of s moment user (CreateReservation desc) = create_refusals s moment user desc
refusals_of s moment user (DeleteReservation name) = delete_refusals s user name
refusals_of s moment user Shutdown = shutdown_refusals s user
refusals_of s moment user (Reconfigure conf bytes) = reconfigure_refusals s user conf
refusals_of s moment user (Report report) = report_refusals s user report
refusals_of s moment user Pass = pass_refusals s user
refusals_of s moment user (Show query) = show_refusals s query

-- what a request comes to that isn't refused
abbrev pub made : State → ℕ → List ℕ → Request → Verdict
made s moment user (Submit desc) = submit_made s moment user desc
made s moment user (Cancel targets) = change_made s moment user act.Cancel (are_meant targets)
made s moment user (Hold targets for_owner) = change_made s moment user (act.Hold for_owner) (are_naming targets)
made s moment user (Release targets) = change_made s moment user act.Release (are_naming targets)
made s moment user (Requeue target) = change_made s moment user act.Requeue (are_naming (target ∷ []))
made s moment user (UpdateJob target limit nice) =
    change_made s moment user (act.Update limit nice) (are_naming (target ∷ []))
made s moment user (UpdateNode nodes state) = update_made s moment nodes state
made s moment user (UpdatePartition name state) = partition_made s state (place_meant (Some name) s.partitions)
made s moment user (CreateReservation desc) = create_made s desc
made s moment user (DeleteReservation name) = delete_made s name
made s moment user Shutdown = Makes Done (shut s)
made s moment user (Reconfigure conf bytes) = reconfigure_made s moment conf
made s moment user (Report report) = report_made s moment report
made s moment user Pass = made_by_pass s moment
made s moment user (Show query) = Tells (view_of s moment user query)

-- What an idle request is: a pass, or another state of a partition, that leaves the state as it is, or, where all is
-- sound, what is done to jobs or said of nodes and changes none, or a slurm.conf that says what the last one said.
abbrev pub ChangesNothing : State → ℕ → List ℕ → Request → Type 0
ChangesNothing s moment user (Cancel targets) =
    IsSound s → change_after s moment user act.Cancel (are_meant targets) ≡ s
ChangesNothing s moment user (Hold targets for_owner) =
    IsSound s → change_after s moment user (act.Hold for_owner) (are_naming targets) ≡ s
ChangesNothing s moment user (Release targets) =
    IsSound s → change_after s moment user act.Release (are_naming targets) ≡ s
ChangesNothing s moment user (Requeue target) =
    IsSound s → change_after s moment user act.Requeue (are_naming (target ∷ [])) ≡ s
ChangesNothing s moment user (UpdateJob target limit nice) =
    IsSound s → change_after s moment user (act.Update limit nice) (are_naming (target ∷ [])) ≡ s
ChangesNothing s moment user (UpdateNode nodes state) = IsSound s → update_after s moment nodes state ≡ s
ChangesNothing s moment user (UpdatePartition name state) =
    IfSome (place_meant (Some name) s.partitions) (λ place. partition_after s place state ≡ s)
ChangesNothing s moment user (Reconfigure conf bytes) = IsSound s → reconfigured s moment conf ≡ s
ChangesNothing s moment user Pass = after_pass s moment ≡ s
ChangesNothing s moment user request = ⊥

-- what would make an entry is refused where the history can't take it
abbrev pub unless_full : Bool → Verdict → Verdict
unless_full true verdict = verdict
unless_full false (Makes reply after) = Refuses HistoryFull
unless_full false verdict = verdict

-- what a user's request at a moment that is none too large comes to, where it is worked
abbrev pub worked : State → ℕ → List ℕ → Request → Verdict
worked s moment user request =
    unless_refused (first_refusal (refusals_of s moment user request))
    (unless_full (has_room s request) (made s moment user request))

-- why any request may be refused, before all else
abbrev pub early_refusals : State → ℕ → Request → List (Option Refusal)
early_refusals s now request =
    refused_if (nat_lt last_moment now) MomentTooLarge
    ∷ refused_if (is_closed s request) ShuttingDown
    ∷ []

-- What a user's request at a moment comes to.
abbrev pub verdict_of : State → ℕ → List ℕ → Request → Verdict
verdict_of s now user request =
    unless_refused (first_refusal (early_refusals s now request)) (worked s (raised s now) user request)

-- the reply to it
abbrev pub reply_of : State → ℕ → List ℕ → Request → Reply
reply_of s now user request = reply_by (verdict_of s now user request)

-- whether a reply is entered in the history
abbrev pub is_entered : Reply → Bool
is_entered (Submitted id) = true
is_entered Done = true
is_entered (Passed ended started planned) = true
is_entered (Orders orders) = true
is_entered Idle = false
is_entered (Shown view) = false
is_entered (Refused refusal) = false

-- a state that an entry of this moment and size has made
abbrev pub entered : ℕ → ℕ → State → State
entered now size s = record (stamped now s) { size = s.size + size }

-- the state after it: an entry makes another, which bears its moment and its size
abbrev pub state_after : State → ℕ → List ℕ → Request → State
state_after s now user request =
    if is_entered (reply_of s now user request)
    then entered (raised s now) (size_of request) (left_by s (verdict_of s now user request))
    else s

-- how many steps a pass of this user counts at most: one for each job that it plans, where it is allowed
abbrev pub steps_of : State → ℕ → List ℕ → ℕ
steps_of s now user =
    if not (nat_lt last_moment now) && (not s.is_shut && is_privileged s user)
    then planned_by_pass s (raised s now)
    else 0

-- Over a hinted plan a pass counts at most one step for each job that it plans and that doesn't stand as it stood there.
abbrev pub IsHinted : PlannedView → State → ℕ → ℕ → ℕ → Type 0
IsHinted hint s now before after = IsPassedOver hint s (raised s now) before after

-- whether a pass was made that was answered so: it passed, or was idle
abbrev pub is_made : Reply → Bool
is_made (Passed ended started planned) = true
is_made Idle = true
is_made reply = false

-- whether a request that was answered so has made a plan: a pass that was made
abbrev pub has_planned : Request → Reply → Bool
has_planned Pass reply = is_made reply
has_planned request reply = false

-- the plan that is kept after a user's request: that of a pass which passed or was idle, as what it was made of; any
-- other request leaves the one that was kept
abbrev pub kept_after : State → Option PlannedView → ℕ → List ℕ → Request → Option PlannedView
kept_after s kept now user request =
    if has_planned request (reply_of s now user request) then Some (pass_input s (raised s now)) else kept

-- the plan over which a pass is made: a hint, or else the kept one
abbrev pub nearest : Option PlannedView → Option PlannedView → Option PlannedView
nearest (Some hint) kept = Some hint
nearest None kept = kept

-- the moment for which an input is made: a moment past the last one counts as that
abbrev pub input_moment : State → ℕ → ℕ
input_moment s now = raised s (min now last_moment)

-- what a pass by a privileged user at a moment would make its plan of
abbrev pub input_at : State → ℕ → PlannedView
input_at s now = pass_input s (input_moment s now)

-- The requests that may want memory. What is done to jobs, what is said of nodes and of partitions, a reservation that is
-- taken back and a shutdown take none.
abbrev pub takes_memory : Request → Bool
takes_memory (Submit desc) = true
takes_memory (CreateReservation desc) = true
takes_memory (Report report) = true
takes_memory Pass = true
takes_memory (Reconfigure conf bytes) = true
takes_memory (Show query) = true
takes_memory request = false

-- the request is in its ranges, as its type keeps them
abbrev pub IsInRange : Request → Type 0
IsInRange (Submit desc) = IsAsked desc × IfSome desc.limit IsLimit
IsInRange (UpdateJob target limit nice) = IfSome limit IsLimit
IsInRange (Reconfigure conf bytes) = IsFile conf
IsInRange request = Unit {0}
