-- Each step keeps all sound.
use Rattle.std.proofs.Common.{◌≡◌, ℕ, ◌+◌, ◌≤◌, Bool, true, false, List, [], ◌∷◌, Option, Some, None, Result, Ok, Err, OnOk, OnErr, if◌then◌else◌, refl, arith, inl, inr}
use Rattle.std.specs.Prelude.{nat_le, nat_lt, slice_get, IfSome}
use Rattle.std.specs.List.{list_any}
use Rattle.std.proofs.lemmas.Bool.{cases_Bool, cond_both, leb-true, ltb-false}
use Rattle.small_texts.specs.declared.memory_error.Memory.{Memory}
use Rattle.plain_data.specs.Confs.{ConfView}
use Rattle.plain_data.specs.declared.job.JobDesc.{JobDesc}
use Rattle.reply_data.specs.declared.refusal.Refusal.{Refusal}
use Rattle.reply_data.specs.declared.refusal.Refusal.TheVariants.{MomentTooLarge, ShuttingDown}
use Rattle.reply_data.specs.declared.reply.Reply.{Reply}
use Rattle.request_data.specs.declared.report.Report.{Report as Told}
use Rattle.request_data.specs.declared.request.Request.{Request}
use Rattle.request_data.specs.declared.request.Request.TheVariants.{Submit, Cancel, Hold, Release, Requeue, UpdateJob, UpdateNode, UpdatePartition, CreateReservation, DeleteReservation, Report, Pass, Shutdown, Reconfigure, Show}
use Rattle.plain_data.specs.declared.conf.PartState.{PartState}
use Rattle.reply_data.specs.declared.reply.Reply.TheVariants.{Done}
use Rattle.node_state.specs.Partitions.{place_meant}
use Rattle.job_table.specs.declared.record.JobRecord.{JobRecord}
use Rattle.ctl_state.specs.State.{State, last_moment, last_size, shutdown_size}
use Rattle.ctl_state.specs.Laws.{PartitionStates, Shutting, Sizing}
use Rattle.ctl_state.specs.Soundness.{IsSound, IsAsked, IsLimit}
use Rattle.ctl_state.specs.Refusals.{refused_if, first_refusal, unless_refused}
use Rattle.ctl_state.specs.Verdicts.{Verdict, Refuses, Tells, Stays, Makes, reply_by, left_by, stamped}
use Rattle.ctl_node_side.specs.Reporting.{report_after}
use Rattle.ctl_node_side.specs.Answering.{node_of}
use Rattle.ctl_node_side.specs.Passes.{after_pass, pass_is_idle}
use Rattle.ctl_node_side.specs.Restarting.{made_by_report, met}
use Rattle.ctl_jobs.specs.Submission.{submit_refusals, submit_made}
use Rattle.ctl_jobs.specs.declared.action.Action.{Action}
use Rattle.ctl_jobs.specs.declared.action.Action.TheVariants as act
use Rattle.ctl_jobs.specs.Changing.{IsAction, are_meant, are_naming, change_after, change_made, goes}
use Rattle.request_data.specs.declared.request.NodeOrder.{NodeOrder}
use Rattle.ctl_nodes.specs.Updating.{changes_any, update_after}
use Rattle.request_data.specs.declared.reservation.ReservationDesc.{ReservationDesc}
use Rattle.ctl_nodes.specs.Reserving.{create_refusals, created, deleted}
use Rattle.ctl_reconfigure.specs.Files.{IsFile}
use Rattle.ctl_reconfigure.specs.Reconfiguring.{reconfigured}
use Rattle.ctl_reconfigure.specs.Refusing.{reconfigure_refusals}
use Rattle.ctl_reconfigure.specs.Same.{is_same}
use Rattle.ctl_core.specs.Operating.{is_in_state, partition_made, shut, shutdown_refusals}
use Rattle.ctl_core.specs.declared.reply.Decided.{Decided}
use Rattle.ctl_core.specs.Sizes.{has_room, size_of}
use Rattle.ctl_core.specs.Step.{raised, refusals_of, made, worked, unless_full, verdict_of, is_closed, is_entered, entered, state_after, IsInRange}
use Rattle.ctl_core.proofs.Sized.{KeepsSize, worked-sized}

-- what a verdict makes is sound, once it bears the moment
abbrev pub MakesSound : State → ℕ → Verdict → Type 0
MakesSound s now (Refuses refusal) = Unit {0}
MakesSound s now (Tells view) = Unit {0}
MakesSound s now Stays = Unit {0}
MakesSound s now (Makes reply after) = IsSound (stamped now after)

-- what accepted requests keep
pub record AllKeep : Type 0 where
  pub submissions : (s after : State) (now : ℕ) (user : List ℕ) (desc : JobDesc) (reply : Reply)
      → IsSound s → s.moment ≤ now → now ≤ last_moment → IsAsked desc → IfSome desc.limit IsLimit
      → first_refusal (submit_refusals s now user desc) ≡ None → submit_made s now user desc ≡ Makes reply after
      → IsSound (stamped now after)
  pub jobs : (s : State) (now : ℕ) (user : List ℕ) (action : Action) (named : JobRecord → Bool)
      → IsSound s → IsAction action → s.moment ≤ now → now ≤ last_moment
      → IsSound (stamped now (change_after s now user action named))
  pub nodes : (s : State) (now : ℕ) (names : List (List ℕ)) (state : NodeOrder)
      → IsSound s → s.moment ≤ now → now ≤ last_moment → IsSound (stamped now (update_after s now names state))
  pub creations : (s : State) (now : ℕ) (user : List ℕ) (desc : ReservationDesc)
      → IsSound s → first_refusal (create_refusals s now user desc) ≡ None → IsSound (created s desc)
  pub deletions : (s : State) (name : List ℕ) → IsSound s → IsSound (deleted s name)
  pub partitions : PartitionStates
  pub shutdown : Shutting
  pub later : (s : State) (now : ℕ) → IsSound s → s.moment ≤ now → now ≤ last_moment → IsSound (stamped now s)
  pub reports : (s : State) (now node : ℕ) (report : Told)
      → IsSound s → s.moment ≤ now → now ≤ last_moment → IsSound (stamped now (report_after (met s now node report) now node report))
  pub passes : (s : State) (now : ℕ)
      → IsSound s → s.moment ≤ now → now ≤ last_moment → IsSound (stamped now (after_pass s now))
  pub sizes : Sizing
  pub reconfigurations : (s : State) (now : ℕ) (user : List ℕ) (conf : ConfView) → IsSound s → s.moment ≤ now
      → now ≤ last_moment → IsFile conf → first_refusal (reconfigure_refusals s user conf) ≡ None
      → IsSound (stamped now (reconfigured s now conf))

-- a verdict makes what is sound, if whatever state it makes is
sound-by : (s : State) (now : ℕ) (verdict : Verdict)
    → ((reply : Reply) (after : State) → verdict ≡ Makes reply after → IsSound (stamped now after))
    → MakesSound s now verdict
sound-by s now (Refuses refusal) makes = tt
sound-by s now (Tells view) makes = tt
sound-by s now Stays makes = tt
sound-by s now (Makes reply after) makes = makes reply after refl

-- what is done to jobs, and another state of a partition
sound-jobs : AllKeep → (s : State) (moment : ℕ) (user : List ℕ) (action : Action) (named : JobRecord → Bool)
    → IsSound s → IsAction action → s.moment ≤ moment → moment ≤ last_moment
    → MakesSound s moment (change_made s moment user action named)
sound-jobs keep s moment user action named sound in_range later in_time =
    cond_both (list_any (goes s user action named) s.jobs) _ Stays (MakesSound s moment)
    (λ some. keep.jobs s moment user action named sound in_range later in_time) (λ none. tt)

sound-partition : AllKeep → (s : State) (moment : ℕ) (state : PartState) (place : Option ℕ)
    → IsSound s → s.moment ≤ moment → moment ≤ last_moment → MakesSound s moment (partition_made s state place)
sound-partition keep s moment state None sound later in_time = tt
sound-partition keep s moment state (Some place) sound later in_time =
    cond_both (is_in_state state (slice_get s.partitions place)) Stays _ (MakesSound s moment) (λ had. tt)
    (λ out. keep.partitions (stamped moment s) place state (keep.later s moment sound later in_time))

-- what a request makes that isn't refused
sound-made : AllKeep → (s : State) (moment : ℕ) (user : List ℕ) (request : Request)
    → IsSound s → s.moment ≤ moment → moment ≤ last_moment → IsInRange request
    → first_refusal (refusals_of s moment user request) ≡ None → MakesSound s moment (made s moment user request)
sound-made keep s moment user (Submit desc) sound later in_time ranges none =
    sound-by s moment (submit_made s moment user desc) (λ reply after makes.
    keep.submissions s after moment user desc reply sound later in_time ranges.0 ranges.1 none makes)
sound-made keep s moment user (Cancel targets) sound later in_time ranges none =
    sound-jobs keep s moment user act.Cancel (are_meant targets) sound tt later in_time
sound-made keep s moment user (Hold targets for_owner) sound later in_time ranges none =
    sound-jobs keep s moment user (act.Hold for_owner) (are_naming targets) sound tt later in_time
sound-made keep s moment user (Release targets) sound later in_time ranges none =
    sound-jobs keep s moment user act.Release (are_naming targets) sound tt later in_time
sound-made keep s moment user (Requeue target) sound later in_time ranges none =
    sound-jobs keep s moment user act.Requeue (are_naming (target ∷ [])) sound tt later in_time
sound-made keep s moment user (UpdateJob target limit nice) sound later in_time ranges none =
    sound-jobs keep s moment user (act.Update limit nice) (are_naming (target ∷ [])) sound ranges later in_time
sound-made keep s moment user (UpdateNode nodes state) sound later in_time ranges none =
    cond_both (changes_any s nodes state) _ Stays (MakesSound s moment)
    (λ some. keep.nodes s moment nodes state sound later in_time) (λ none. tt)
sound-made keep s moment user (UpdatePartition name state) sound later in_time ranges none =
    sound-partition keep s moment state (place_meant (Some name) s.partitions) sound later in_time
sound-made keep s moment user (CreateReservation desc) sound later in_time ranges none =
    keep.later (created s desc) moment (keep.creations s moment user desc sound none) later in_time
sound-made keep s moment user (DeleteReservation name) sound later in_time ranges none =
    keep.later (deleted s name) moment (keep.deletions s name sound) later in_time
sound-made keep s moment user Shutdown sound later in_time ranges none =
    keep.shutdown (stamped moment s) (keep.later s moment sound later in_time)
sound-made keep s moment user (Report report) sound later in_time ranges none =
    elim (node_of s report) as (λ node. MakesSound s moment (made_by_report s moment report node))
    [ None ↦ tt | Some node ↦ keep.reports s moment node report sound later in_time ]
sound-made keep s moment user Pass sound later in_time ranges none =
    cond_both (pass_is_idle s moment) Stays _ (MakesSound s moment) (λ idle. tt)
    (λ busy. keep.passes s moment sound later in_time)
sound-made keep s moment user (Reconfigure conf bytes) sound later in_time ranges none =
    cond_both (is_same s conf) Stays _ (MakesSound s moment) (λ same. tt)
    (λ other. keep.reconfigurations s moment user conf sound later in_time ranges none)
sound-made keep s moment user (Show query) sound later in_time ranges none = tt

sound-full : (s : State) (moment : ℕ) (room : Bool) (verdict : Verdict)
    → MakesSound s moment verdict → MakesSound s moment (unless_full room verdict)
sound-full s moment true verdict makes = makes
sound-full s moment false (Refuses refusal) makes = tt
sound-full s moment false (Tells view) makes = tt
sound-full s moment false Stays makes = tt
sound-full s moment false (Makes reply after) makes = tt

sound-judged : (s : State) (moment : ℕ) (refusal : Option Refusal) (verdict : Verdict)
    → (refusal ≡ None → MakesSound s moment verdict) → MakesSound s moment (unless_refused refusal verdict)
sound-judged s moment None verdict makes = makes refl
sound-judged s moment (Some refusal) verdict makes = tt

-- a verdict of so large a request leaves the history within its bound, but for a shutdown
abbrev pub Fits : State → ℕ → Verdict → Type 0
Fits s size (Refuses refusal) = Unit {0}
Fits s size (Tells view) = Unit {0}
Fits s size Stays = Unit {0}
Fits s size (Makes reply after) =
    (s.size + size ≤ last_size + shutdown_size) × (after.is_shut ≡ false → s.size + size ≤ last_size)

fits-full : (s : State) (size : ℕ) (verdict : Verdict)
    → Fits s size (unless_full (nat_le (s.size + size) last_size) verdict)
fits-full s size verdict = elim (cases_Bool (nat_le (s.size + size) last_size)) [
  | inl room ↦ rw room (fits-within verdict (leb-true (s.size + size) last_size room))
  | inr full ↦ rw full (fits-not verdict)
]
  where
    fits-within : (verdict : Verdict) → s.size + size ≤ last_size → Fits s size verdict
    fits-within (Refuses refusal) within = tt
    fits-within (Tells view) within = tt
    fits-within Stays within = tt
    fits-within (Makes reply after) within = (omega (arith, within), λ accepts. within)

    fits-not : (verdict : Verdict) → Fits s size (unless_full false verdict)
    fits-not (Refuses refusal) = tt
    fits-not (Tells view) = tt
    fits-not Stays = tt
    fits-not (Makes reply after) = tt

fits-judged : (s : State) (size : ℕ) (refusal : Option Refusal) (verdict : Verdict) → Fits s size verdict
    → Fits s size (unless_refused refusal verdict)
fits-judged s size None verdict fits = fits
fits-judged s size (Some refusal) verdict fits = tt

worked-fits : (s : State) (moment : ℕ) (user : List ℕ) (request : Request) → IsSound s → is_closed s request ≡ false
    → Fits s (size_of request) (worked s moment user request)
worked-fits s moment user Shutdown sound accepts =
    let within = sound.accepts accepts in
    fits-judged s shutdown_size (first_refusal (shutdown_refusals s user)) (Makes Done (shut s))
    (omega (arith, within), λ never. absurd cc)
worked-fits s moment user request sound accepts =
    fits-judged s (size_of request) (first_refusal (refusals_of s moment user request)) _
    (fits-full s (size_of request) (made s moment user request))

-- what a verdict leaves is sound, once it bears moment and size
sound-left : Sizing → (s : State) (moment size : ℕ) (verdict : Verdict)
    → IsSound s → MakesSound s moment verdict → KeepsSize s verdict
    → Fits s size verdict
    → IsSound (if is_entered (reply_by verdict) then entered moment size (left_by s verdict) else s)
sound-left sizes s moment size (Refuses refusal) sound makes sized room = sound
sound-left sizes s moment size (Tells view) sound makes sized room = sound
sound-left sizes s moment size Stays sound makes sized room = sound
sound-left sizes s moment size (Makes reply after) sound makes sized room =
    cond_both (is_entered reply) (entered moment size after) s IsSound
    (λ enters. sizes (stamped moment after) (after.size + size) makes (rw sized room.0) (λ accepts. rw sized (room.1 accepts)))
    (λ other. sound)

-- what a request comes to at a moment that is none too large
sound-worked : AllKeep → (s : State) (moment : ℕ) (user : List ℕ) (request : Request)
    → IsSound s → s.moment ≤ moment → moment ≤ last_moment → IsInRange request
    → MakesSound s moment (worked s moment user request)
sound-worked keep s moment user request sound later in_time ranges =
    sound-judged s moment (first_refusal (refusals_of s moment user request)) _ (λ none.
    sound-full s moment (has_room s request) (made s moment user request)
    (sound-made keep s moment user request sound later in_time ranges none))

-- what a verdict keeps, and only enters where there is room
pub record IsKept (s : State) (moment : ℕ) (request : Request) (verdict : Verdict) : Type 0 where
  pub makes : MakesSound s moment verdict
  pub sized : KeepsSize s verdict
  pub room : Fits s (size_of request) verdict

kept-early : AllKeep → (s : State) (now : ℕ) (user : List ℕ) (request : Request) (early closed : Bool)
    → IsSound s → IsInRange request → nat_lt last_moment now ≡ early → is_closed s request ≡ closed
    → IsKept s (raised s now) request
    (unless_refused (first_refusal (refused_if early MomentTooLarge ∷ refused_if closed ShuttingDown ∷ []))
    (worked s (raised s now) user request))
kept-early keep s now user request true closed sound ranges early closes = record { makes = tt; sized = tt; room = tt }
kept-early keep s now user request false true sound ranges early closes = record { makes = tt; sized = tt; room = tt }
kept-early keep s now user request false false sound ranges early accepts =
    let in_time = ltb-false last_moment now early in
    let moment = raised s now in
    record {
      makes = sound-worked keep s moment user request sound (omega arith) (omega (arith, sound.moment, in_time)) ranges;
      sized = worked-sized s moment user request;
      room = worked-fits s moment user request sound accepts;
    }

kept-verdict : AllKeep → (s : State) (now : ℕ) (user : List ℕ) (request : Request)
    → IsSound s → IsInRange request → IsKept s (raised s now) request (verdict_of s now user request)
kept-verdict keep s now user request sound ranges =
    kept-early keep s now user request (nat_lt last_moment now) (is_closed s request) sound ranges refl refl

-- Whatever is asked, what is sound stays sound.
pub sound-step : AllKeep → (s : State) (now : ℕ) (user : List ℕ) (request : Request)
    → IsSound s → IsInRange request → IsSound (state_after s now user request)
sound-step keep s now user request sound ranges =
    let kept = kept-verdict keep s now user request sound ranges in
    sound-left keep.sizes s (raised s now) (size_of request) (verdict_of s now user request) sound
    kept.makes kept.sized kept.room

-- so what a step leaves is sound, whatever comes of it
pub sound-either : (result : Result Decided Memory) (new old after : State)
    → OnOk result (new ≡ after) → OnErr result (new ≡ old) → IsSound old → IsSound after → IsSound new
sound-either (Ok decided) new old after made same was is = rw made is
sound-either (Err memory) new old after made same was is = rw same was
