-- What an accepted request makes of a state, by its kinds.
use Rattle.std.proofs.Common.{ℕ, ◌≡◌, Bool, List, [], ◌∷◌, Option, Some, None, slice_get, refl, subst}
use Rattle.std.specs.List.{list_any}
use Rattle.std.proofs.lemmas.Bool.{cond_both}
use Rattle.plain_data.specs.Confs.{ConfView}
use Rattle.plain_data.specs.declared.conf.PartState.{PartState}
use Rattle.plain_data.specs.declared.job.JobDesc.{JobDesc}
use Rattle.plain_data.specs.declared.limit.Limit.{Limit}
use Rattle.plain_data.specs.declared.nice.Nice.{Nice}
use Rattle.reply_data.specs.declared.refusal.Refusal.{Refusal}
use Rattle.reply_data.specs.declared.reply.Reply.{Reply}
use Rattle.reply_data.specs.declared.reply.Reply.TheVariants.{Done}
use Rattle.reply_data.specs.declared.view.View.{View}
use Rattle.request_data.specs.declared.report.Report.{Report as Told}
use Rattle.request_data.specs.declared.request.NodeOrder.{NodeOrder}
use Rattle.request_data.specs.declared.request.Request.{Request}
use Rattle.request_data.specs.declared.request.Request.TheVariants.{Submit, Cancel, Hold, Release, Requeue, UpdateJob, UpdateNode, UpdatePartition, CreateReservation, DeleteReservation, Report, Pass, Shutdown, Reconfigure, Show}
use Rattle.request_data.specs.declared.reservation.ReservationDesc.{ReservationDesc}
use Rattle.request_data.specs.declared.target.Target.{Target}
use Rattle.request_data.specs.declared.target.Targets.{Targets}
use Rattle.node_state.specs.Partitions.{place_meant}
use Rattle.job_table.specs.declared.record.JobRecord.{JobRecord}
use Rattle.ctl_state.specs.State.{State}
use Rattle.ctl_state.specs.Verdicts.{Verdict, Refuses, Tells, Stays, Makes}
use Rattle.ctl_node_side.specs.Answering.{node_of}
use Rattle.ctl_node_side.specs.Passes.{after_pass, pass_is_idle}
use Rattle.ctl_node_side.specs.Reporting.{report_after}
use Rattle.ctl_node_side.specs.Restarting.{made_by_report, met}
use Rattle.ctl_jobs.specs.Changing.{are_meant, are_naming, change_after, change_made, goes}
use Rattle.ctl_jobs.specs.Submission.{Basis, basis_of, made_under, new_arrays, new_jobs, submit_after}
use Rattle.ctl_jobs.specs.declared.action.Action.{Action}
use Rattle.ctl_jobs.specs.declared.action.Action.TheVariants as act
use Rattle.ctl_nodes.specs.Reserving.{created, deleted}
use Rattle.ctl_nodes.specs.Updating.{changes_any, update_after}
use Rattle.ctl_reconfigure.specs.Reconfiguring.{reconfigured}
use Rattle.ctl_reconfigure.specs.Same.{is_same}
use Rattle.ctl_core.specs.Operating.{is_in_state, partition_after, partition_made, shut}
use Rattle.ctl_core.specs.Step.{made}

-- the request asks that this be done to the jobs so named
pub data Asks : Request → Action → (JobRecord → Bool) → Type 0 where
  AsksCancel : (targets : Targets) → Asks (Cancel targets) act.Cancel (are_meant targets)
  AsksHold : (targets : List Target) (for_owner : Bool)
      → Asks (Hold targets for_owner) (act.Hold for_owner) (are_naming targets)
  AsksRelease : (targets : List Target) → Asks (Release targets) act.Release (are_naming targets)
  AsksRequeue : (target : Target) → Asks (Requeue target) act.Requeue (are_naming (target ∷ []))
  AsksUpdate : (target : Target) (limit : Option Limit) (nice : Option Nice)
      → Asks (UpdateJob target limit nice) (act.Update limit nice) (are_naming (target ∷ []))

-- A request of this user at this moment, if it is accepted and changes something, makes this state, before that bears its
-- moment and size.
pub data MayMake (s : State) (now : ℕ) (user : List ℕ) : Request → State → Type 0 where
  BySubmit : (desc : JobDesc) (basis : Basis) → basis_of s user desc ≡ Some basis
      → MayMake s now user (Submit desc)
      (submit_after s (new_jobs s now user desc basis desc.array) (new_arrays s desc.array))
  ByAction : {request : Request} (action : Action) (named : JobRecord → Bool) → Asks request action named
      → MayMake s now user request (change_after s now user action named)
  ByUpdateNode : (nodes : List (List ℕ)) (order : NodeOrder)
      → MayMake s now user (UpdateNode nodes order) (update_after s now nodes order)
  ByUpdatePartition : (name : List ℕ) (state : PartState) (place : ℕ)
      → MayMake s now user (UpdatePartition name state) (partition_after s place state)
  ByCreateReservation : (desc : ReservationDesc) → MayMake s now user (CreateReservation desc) (created s desc)
  ByDeleteReservation : (name : List ℕ) → MayMake s now user (DeleteReservation name) (deleted s name)
  ByReport : (report : Told) (node : ℕ) → node_of s report ≡ Some node
      → MayMake s now user (Report report) (report_after (met s now node report) now node report)
  ByPass : MayMake s now user Pass (after_pass s now)
  ByShutdown : MayMake s now user Shutdown (shut s)
  ByReconfigure : (conf : ConfView) (bytes : ℕ)
      → MayMake s now user (Reconfigure conf bytes) (reconfigured s now conf)

-- what holds of a verdict that makes a state
abbrev pub MakesBy : (Reply → State → Type 0) → Verdict → Type 0
MakesBy Q (Refuses refusal) = Unit {0}
MakesBy Q (Tells view) = Unit {0}
MakesBy Q Stays = Unit {0}
MakesBy Q (Makes reply after) = Q reply after

-- it holds of the state that the verdict makes
pub made_by : (Q : Reply → State → Type 0) {verdict : Verdict} {reply : Reply} {after : State} → MakesBy Q verdict
    → verdict ≡ Makes reply after → Q reply after
made_by Q by makes = subst (MakesBy Q) makes by

-- ---- each request makes a state of one of the kinds

abbrev IsOfKind : State → ℕ → List ℕ → Request → Verdict → Type 0
IsOfKind s now user request verdict = MakesBy (λ reply (after : State). MayMake s now user request after) verdict

submit-kind : (s : State) (now : ℕ) (user : List ℕ) (desc : JobDesc) (basis : Option Basis)
    → basis_of s user desc ≡ basis → IsOfKind s now user (Submit desc) (made_under s now user desc basis)
submit-kind s now user desc None is = tt
submit-kind s now user desc (Some basis) is = BySubmit desc basis is

action-kind : (s : State) (now : ℕ) (user : List ℕ) (request : Request) (action : Action) (named : JobRecord → Bool)
    → Asks request action named → IsOfKind s now user request (change_made s now user action named)
action-kind s now user request action named asks =
    cond_both (list_any (goes s user action named) s.jobs) (Makes Done (change_after s now user action named)) Stays
    (IsOfKind s now user request) (λ some. ByAction action named asks) (λ none. tt)

partition-kind : (s : State) (now : ℕ) (user name : List ℕ) (state : PartState) (place : Option ℕ)
    → IsOfKind s now user (UpdatePartition name state) (partition_made s state place)
partition-kind s now user name state None = tt
partition-kind s now user name state (Some place) =
    cond_both (is_in_state state (slice_get s.partitions place)) Stays (Makes Done (partition_after s place state))
    (IsOfKind s now user (UpdatePartition name state)) (λ had. tt) (λ out. ByUpdatePartition name state place)

report-kind : (s : State) (now : ℕ) (user : List ℕ) (report : Told) (node : Option ℕ) → node_of s report ≡ node
    → IsOfKind s now user (Report report) (made_by_report s now report node)
report-kind s now user report None is = tt
report-kind s now user report (Some node) is = ByReport report node is

pub made_kind : (s : State) (now : ℕ) (user : List ℕ) (request : Request)
    → MakesBy (λ reply (after : State). MayMake s now user request after) (made s now user request)
made_kind s now user (Submit desc) = submit-kind s now user desc (basis_of s user desc) refl
made_kind s now user (Cancel targets) =
    action-kind s now user (Cancel targets) act.Cancel (are_meant targets) (AsksCancel targets)
made_kind s now user (Hold targets for_owner) =
    action-kind s now user (Hold targets for_owner) (act.Hold for_owner) (are_naming targets) (AsksHold targets for_owner)
made_kind s now user (Release targets) =
    action-kind s now user (Release targets) act.Release (are_naming targets) (AsksRelease targets)
made_kind s now user (Requeue target) =
    action-kind s now user (Requeue target) act.Requeue (are_naming (target ∷ [])) (AsksRequeue target)
made_kind s now user (UpdateJob target limit nice) =
    action-kind s now user (UpdateJob target limit nice) (act.Update limit nice) (are_naming (target ∷ []))
    (AsksUpdate target limit nice)
made_kind s now user (UpdateNode nodes order) =
    cond_both (changes_any s nodes order) (Makes Done (update_after s now nodes order)) Stays
    (IsOfKind s now user (UpdateNode nodes order)) (λ some. ByUpdateNode nodes order) (λ none. tt)
made_kind s now user (UpdatePartition name state) =
    partition-kind s now user name state (place_meant (Some name) s.partitions)
made_kind s now user (CreateReservation desc) = ByCreateReservation desc
made_kind s now user (DeleteReservation name) = ByDeleteReservation name
made_kind s now user (Report report) = report-kind s now user report (node_of s report) refl
made_kind s now user Pass =
    cond_both (pass_is_idle s now) Stays _ (IsOfKind s now user Pass) (λ idle. tt) (λ busy. ByPass)
made_kind s now user Shutdown = ByShutdown
made_kind s now user (Reconfigure conf bytes) =
    cond_both (is_same s conf) Stays (Makes Done (reconfigured s now conf)) (IsOfKind s now user (Reconfigure conf bytes))
    (λ same. tt) (λ other. ByReconfigure conf bytes)
made_kind s now user (Show query) = tt
