-- What an accepted request makes is another state, before it bears its moment: a submission adds jobs, what is done to
-- jobs changes one, a report is heard that comes after the last one, a partition gets another state, and a pass that would
-- change nothing is idle.
use Rattle.std.proofs.Common.{◌≡◌, ◌≢◌, ℕ, zero, suc, ◌<◌, ◌∙◌, Bool, true, false, List, [], ◌∷◌, length, drop, get_or, Option, Some, None, refl, sym, ap, arith, inl, inr, if◌then◌else◌}
use Rattle.std.specs.Prelude.{nat_lt, not, is_none, option_and_then, slice_get, IfSome}
use Rattle.std.specs.List.{list_any}
use Rattle.std.proofs.lemmas.Bool.{cases_Bool, both_ways, cond_both}
use Rattle.std.proofs.lemmas.Bool.Decides.{nat_tests}
use Rattle.std.proofs.lemmas.List.Quantifiers.{position-Some}
use Rattle.plain_data.specs.Confs.{ConfView}
use Rattle.plain_data.specs.declared.job.JobDesc.{JobDesc}
use Rattle.reply_data.specs.declared.refusal.Refusal.{Refusal}
use Rattle.reply_data.specs.declared.refusal.Refusal.TheVariants.{AccessDenied, InvalidReservation, UnknownNode, MomentTooLarge, ShuttingDown}
use Rattle.reply_data.specs.declared.reply.Reply.{Reply}
use Rattle.reply_data.specs.declared.reply.Reply.TheVariants.{Done, Idle}
use Rattle.request_data.specs.declared.report.Report.{Report as Told}
use Rattle.request_data.specs.declared.request.Request.{Request}
use Rattle.request_data.specs.declared.request.Request.TheVariants.{Submit, Cancel, Hold, Release, Requeue, UpdateJob, UpdateNode, UpdatePartition, CreateReservation, DeleteReservation, Report, Pass, Shutdown, Reconfigure, Show}
use Rattle.plain_data.specs.declared.conf.PartState.{PartState}
use Rattle.node_state.specs.Partitions.{place_meant}
use Rattle.job_table.specs.declared.record.JobRecord.{JobRecord}
use Rattle.node_state.specs.declared.record.NodeRecord.{NodeRecord}
use Rattle.node_state.specs.Nodes.{is_named, place_named}
use Rattle.ctl_state.specs.State.{State, last_moment}
use Rattle.ctl_state.specs.Refusals.{refused_if, first_refusal, unless_refused, is_privileged}
use Rattle.ctl_state.specs.Soundness.{IsSound}
use Rattle.ctl_state.specs.Verdicts.{Verdict, Refuses, Tells, Stays, Makes, reply_by, left_by}
use Rattle.ctl_node_side.specs.Reporting.{heard_of, heard_nodes}
use Rattle.ctl_node_side.specs.Answering.{is_restarted, node_of, last_heard, staleness}
use Rattle.ctl_node_side.specs.Passes.{after_pass, made_by_pass, pass_is_idle}
use Rattle.ctl_node_side.specs.Restarting.{made_by_report, met}
use Rattle.ctl_jobs.specs.Submission.{made_under, submit_made, basis_of}
use Rattle.ctl_jobs.specs.declared.action.Action.{Action}
use Rattle.ctl_jobs.specs.declared.action.Action.TheVariants as act
use Rattle.ctl_jobs.specs.Changing.{are_meant, are_naming, change_after, change_made, goes}
use Rattle.request_data.specs.declared.request.NodeOrder.{NodeOrder}
use Rattle.ctl_nodes.specs.Updating.{changes_any, update_after, update_made}
use Rattle.request_data.specs.declared.reservation.ReservationDesc.{ReservationDesc}
use Rattle.node_state.specs.Reservations.{reservation_named}
use Rattle.ctl_nodes.specs.Reserving.{created, deleted}
use Rattle.ctl_reconfigure.specs.Reconfiguring.{reconfigure_made, reconfigured}
use Rattle.ctl_reconfigure.specs.Same.{is_same}
use Rattle.ctl_core.specs.Operating.{is_in_state, partition_after, partition_made, shut}
use Rattle.ctl_core.specs.Sizes.{has_room}
use Rattle.ctl_core.specs.Step.{raised, refusals_of, made, worked, ChangesNothing, early_refusals, unless_full, verdict_of, reply_of, is_closed}
use Rattle.ctl_core.proofs.Partitions.{in-state-had, in-state-stays}

-- what is known of requests that change nothing
pub record OnlyIdle : Type 0 where
  pub submissions : (s after : State) (now : ℕ) (user : List ℕ) (desc : JobDesc) (reply : Reply)
      → submit_made s now user desc ≡ Makes reply after → after ≢ s
  pub jobs : (s : State) (now : ℕ) (user : List ℕ) (action : Action) (named : JobRecord → Bool)
      → change_after s now user action named ≡ s → list_any (goes s user action named) s.jobs ≡ false
  pub nodes : (s : State) (now : ℕ) (names : List (List ℕ)) (state : NodeOrder)
      → update_after s now names state ≡ s → changes_any s names state ≡ false
  pub creations : (s : State) (desc : ReservationDesc) → created s desc ≢ s
  pub deletions : (s : State) (name : List ℕ) → is_none (reservation_named name s.reservations) ≡ false → deleted s name ≢ s
  pub passes : (s : State) (now : ℕ) → after_pass s now ≡ s → pass_is_idle s now ≡ true
  pub confs : (s : State) (now : ℕ) (conf : ConfView) → reconfigured s now conf ≡ s → is_same s conf ≡ true

-- the first of refusals that come to none: none of them stands
none-first : (refusal : Refusal) (stands : Bool) (later : List (Option Refusal))
    → first_refusal (refused_if stands refusal ∷ later) ≡ None → (stands ≡ false) × (first_refusal later ≡ None)
none-first refusal true later none = absurd (cc)
none-first refusal false later none = (refl, none)

-- the state that a verdict makes
made-after : {reply other : Reply} {after left : State} → Makes reply after ≡ Makes other left → after ≡ left
made-after {reply} {other} {after} {left} same = cc

-- a verdict that makes a state is refused for nothing
judged : (refusal : Option Refusal) (verdict : Verdict) {reply : Reply} {after : State}
    → unless_refused refusal verdict ≡ Makes reply after → (refusal ≡ None) × (verdict ≡ Makes reply after)
judged None verdict makes = (refl, makes)
judged (Some refusal) verdict makes = absurd (cc)

-- and has room
full-made : (room : Bool) (verdict : Verdict) {reply : Reply} {after : State}
    → unless_full room verdict ≡ Makes reply after → verdict ≡ Makes reply after
full-made true verdict makes = makes
full-made false (Refuses refusal) makes = absurd (cc)
full-made false (Tells view) makes = absurd (cc)
full-made false Stays makes = absurd (cc)
full-made false (Makes other left) makes = absurd (cc)

-- a report wouldn't come after itself
stale-after-itself : (now : ℕ) (report : Told)
    → staleness report (Some (record { boot = report.boot; number = report.number; moment = now })) ≢ None
stale-after-itself now report fresh = grind (arith, nat_tests)

-- were the nodes as before, this very report would be the last one of its node, and wouldn't come after itself: so an
-- accepted report changes the nodes
nodes-change : (now : ℕ) (report : Told) (nodes : List NodeRecord) (node : ℕ)
    → node < length nodes → staleness report (heard_of nodes node) ≡ None → heard_nodes now node report nodes ≢ nodes
nodes-change now report [] node within fresh same = absurd (omega (arith, within))
nodes-change now report (first ∷ later) zero within fresh same =
    let heard = ap (λ (nodes : List NodeRecord). (get_or nodes 0 first).heard) same in
    stale-after-itself now report (rw (← heard) at fresh)
nodes-change now report (first ∷ later) (suc node) within fresh same =
    nodes-change now report later node (omega (arith, within)) fresh
    (ap (λ (nodes : List NodeRecord). drop 1 nodes) same)

named-within : (name : List ℕ) (nodes : List NodeRecord) (node : ℕ)
    → place_named name nodes ≡ Some node → node < length nodes
named-within name [] node named = absurd (cc)
named-within name (first ∷ later) node named = (position-Some (is_named name) (first ∷ later) node first named).0

told-changes : (s : State) (now : ℕ) (report : Told) (node : Option ℕ) {reply : Reply} {after : State}
    → node_of s report ≡ node → staleness report (option_and_then (heard_of s.nodes) node) ≡ None
    → made_by_report s now report node ≡ Makes reply after → after ≢ s
told-changes s now report None named fresh makes same = absurd (cc)
told-changes s now report (Some node) named fresh makes same =
    let met_nodes : (met s now node report).nodes ≡ s.nodes =
    cond_both (is_restarted s report) _ s (λ (t : State). t.nodes ≡ s.nodes) (λ restarted. refl) (λ other. refl) in
    nodes-change now report s.nodes node (named-within report.node s.nodes node named) fresh
    (ap (heard_nodes now node report) (sym met_nodes) ∙ ap (λ (t : State). t.nodes) (made-after makes ∙ same))

-- a pass that would change nothing is idle
pub pass-stays : ((s : State) (now : ℕ) → after_pass s now ≡ s → pass_is_idle s now ≡ true)
    → (s : State) (now : ℕ) → after_pass s now ≡ s → made_by_pass s now ≡ Stays
pass-stays only s now same = rw (only s now same)

-- what is done to jobs and would change nothing changes no job
pub jobs-stay : ((s : State) (now : ℕ) (user : List ℕ) (action : Action) (named : JobRecord → Bool)
    → change_after s now user action named ≡ s → list_any (goes s user action named) s.jobs ≡ false)
    → (s : State) (now : ℕ) (user : List ℕ) (action : Action) (named : JobRecord → Bool)
    → change_after s now user action named ≡ s → change_made s now user action named ≡ Stays
jobs-stay only s now user action named same = rw (only s now user action named same)

-- nor does what is said of nodes
pub nodes-stay : ((s : State) (now : ℕ) (names : List (List ℕ)) (state : NodeOrder)
    → update_after s now names state ≡ s → changes_any s names state ≡ false)
    → (s : State) (now : ℕ) (names : List (List ℕ)) (state : NodeOrder)
    → update_after s now names state ≡ s → update_made s now names state ≡ Stays
nodes-stay only s now names state same = rw (only s now names state same)

-- nor does a slurm.conf that says what the last one said
pub confs-stay : ((s : State) (now : ℕ) (conf : ConfView) → reconfigured s now conf ≡ s → is_same s conf ≡ true)
    → (s : State) (now : ℕ) (conf : ConfView) → reconfigured s now conf ≡ s → reconfigure_made s now conf ≡ Stays
confs-stay only s now conf same = rw (only s now conf same)

-- a partition that would be as it was is in its state
pub partition-stays : (s : State) (place : ℕ) (state : PartState)
    → partition_after s place state ≡ s → partition_made s state (Some place) ≡ Stays
partition-stays s place state same = rw (in-state-had place state s.partitions (ap (λ (t : State). t.partitions) same))

pass-changes : OnlyIdle → (s : State) (now : ℕ) {reply : Reply} {after : State}
    → made_by_pass s now ≡ Makes reply after → after ≢ s
pass-changes only s now makes same = elim (cases_Bool (pass_is_idle s now)) [
  | inl idle ↦ let stays = rw idle at makes in absurd (cc)
  | inr busy ↦ both_ways (pass_is_idle s now) busy (only.passes s now (made-after (rw busy at makes) ∙ same))
]

jobs-change : OnlyIdle → (s : State) (now : ℕ) (user : List ℕ) (action : Action) (named : JobRecord → Bool)
    {reply : Reply} {after : State}
    → change_made s now user action named ≡ Makes reply after → after ≢ s
jobs-change only s now user action named makes same =
    elim (cases_Bool (list_any (goes s user action named) s.jobs)) [
      | inl some ↦
          both_ways (list_any (goes s user action named) s.jobs)
          (only.jobs s now user action named (made-after (rw some at makes) ∙ same)) some
      | inr none ↦ let stays = rw none at makes in absurd (cc)
    ]

nodes-change-by : OnlyIdle → (s : State) (now : ℕ) (names : List (List ℕ)) (state : NodeOrder)
    {reply : Reply} {after : State}
    → update_made s now names state ≡ Makes reply after → after ≢ s
nodes-change-by only s now names state makes same =
    elim (cases_Bool (changes_any s names state)) [
      | inl some ↦
          both_ways (changes_any s names state)
          (only.nodes s now names state (made-after (rw some at makes) ∙ same)) some
      | inr none ↦ let stays = rw none at makes in absurd (cc)
    ]

partition-changes : (s : State) (state : PartState) (place : Option ℕ) {reply : Reply} {after : State}
    → partition_made s state place ≡ Makes reply after → after ≢ s
partition-changes s state None makes same = absurd (cc)
partition-changes s state (Some place) makes same =
    elim (cases_Bool (is_in_state state (slice_get s.partitions place))) [
      | inl had ↦ let stays = rw had at makes in absurd (cc)
      | inr out ↦
          let was = in-state-had place state s.partitions
          (ap (λ (t : State). t.partitions) (made-after (rw out at makes) ∙ same)) in
          both_ways (is_in_state state (slice_get s.partitions place)) out was
    ]

confs-change : OnlyIdle → (s : State) (now : ℕ) (conf : ConfView) {reply : Reply} {after : State}
    → reconfigure_made s now conf ≡ Makes reply after → after ≢ s
confs-change only s now conf makes same =
    elim (cases_Bool (is_same s conf)) [
      | inl is ↦ let stays = rw is at makes in absurd (cc)
      | inr other ↦ both_ways (is_same s conf) other (only.confs s now conf (made-after (rw other at makes) ∙ same))
    ]

shut-changes : (s : State) {reply : Reply} {after : State} → s.is_shut ≡ false
    → Makes Done (shut s) ≡ Makes reply after → after ≢ s
shut-changes s accepts makes same =
    both_ways s.is_shut accepts (sym (ap (λ (t : State). t.is_shut) (made-after makes ∙ same)))

made-changes : OnlyIdle → (s : State) (moment : ℕ) (user : List ℕ) (request : Request) {reply : Reply} {after : State}
    → is_closed s request ≡ false → first_refusal (refusals_of s moment user request) ≡ None
    → made s moment user request ≡ Makes reply after → after ≢ s
made-changes only s moment user (Submit desc) {reply} {after} accepts none makes same =
    only.submissions s after moment user desc reply makes same
made-changes only s moment user (Cancel targets) accepts none makes same =
    jobs-change only s moment user act.Cancel (are_meant targets) makes same
made-changes only s moment user (Hold targets for_owner) accepts none makes same =
    jobs-change only s moment user (act.Hold for_owner) (are_naming targets) makes same
made-changes only s moment user (Release targets) accepts none makes same =
    jobs-change only s moment user act.Release (are_naming targets) makes same
made-changes only s moment user (Requeue target) accepts none makes same =
    jobs-change only s moment user act.Requeue (are_naming (target ∷ [])) makes same
made-changes only s moment user (UpdateJob target limit nice) accepts none makes same =
    jobs-change only s moment user (act.Update limit nice) (are_naming (target ∷ [])) makes same
made-changes only s moment user (UpdateNode nodes state) accepts none makes same =
    nodes-change-by only s moment nodes state makes same
made-changes only s moment user (UpdatePartition name state) accepts none makes same =
    partition-changes s state (place_meant (Some name) s.partitions) makes same
made-changes only s moment user (CreateReservation desc) accepts none makes same =
    only.creations s desc (made-after makes ∙ same)
made-changes only s moment user (DeleteReservation name) accepts none makes same =
    let allowed = none-first AccessDenied (not (is_privileged s user)) _ none in
    let known = none-first InvalidReservation (is_none (reservation_named name s.reservations)) _ allowed.1 in
    only.deletions s name known.0 (made-after makes ∙ same)
made-changes only s moment user Shutdown accepts none makes same = shut-changes s accepts makes same
made-changes only s moment user (Report report) accepts none makes same =
    let allowed = none-first AccessDenied (not (is_privileged s user)) _ none in
    let known = none-first UnknownNode (is_none (node_of s report)) _ allowed.1 in
    let fresh = elim (staleness report (last_heard s report))
    as (λ refusal. first_refusal (refusal ∷ []) ≡ None → refusal ≡ None)
    [ None ↦ λ none. refl | Some refusal ↦ λ none. none ] known.1 in
    told-changes s moment report (node_of s report) refl fresh makes same
made-changes only s moment user Pass accepts none makes same = pass-changes only s moment makes same
made-changes only s moment user (Reconfigure conf bytes) accepts none makes same =
    confs-change only s moment conf makes same
made-changes only s moment user (Show query) accepts none makes same = absurd (cc)

-- What an accepted request makes is another state.
pub step-changes : OnlyIdle → (s : State) (now : ℕ) (user : List ℕ) (request : Request) {reply : Reply} {after : State}
    → verdict_of s now user request ≡ Makes reply after → after ≢ s
step-changes only s now user request makes same =
    let moment = raised s now in
    let early = judged (first_refusal (early_refusals s now request)) (worked s moment user request) makes in
    let late = none-first MomentTooLarge (nat_lt last_moment now) _ early.0 in
    let accepts = none-first ShuttingDown (is_closed s request) _ late.1 in
    let judged = judged (first_refusal (refusals_of s moment user request)) _ early.1 in
    let made = full-made (has_room s request) (made s moment user request) judged.1 in
    made-changes only s moment user request accepts.0 judged.0 made same

-- what an idle request is known by
pub record IdleKeeps : Type 0 where
  pub jobs : (s : State) (now : ℕ) (user : List ℕ) (action : Action) (named : JobRecord → Bool)
      → IsSound s → list_any (goes s user action named) s.jobs ≡ false → change_after s now user action named ≡ s
  pub nodes : (s : State) (now : ℕ) (names : List (List ℕ)) (state : NodeOrder)
      → IsSound s → changes_any s names state ≡ false → update_after s now names state ≡ s
  pub passes : (s : State) (now : ℕ) → pass_is_idle s now ≡ true → after_pass s now ≡ s
  pub confs : (s : State) (now : ℕ) (conf : ConfView) → IsSound s → is_same s conf ≡ true
      → reconfigured s now conf ≡ s

-- a verdict whose reply is that nothing changes is refused for nothing, and has room or needs none
judged-idle : (refusal : Option Refusal) (verdict : Verdict)
    → reply_by (unless_refused refusal verdict) ≡ Idle → reply_by verdict ≡ Idle
judged-idle None verdict idle = idle
judged-idle (Some refusal) verdict idle = absurd (cc)

full-idle : (room : Bool) (verdict : Verdict) → reply_by (unless_full room verdict) ≡ Idle → reply_by verdict ≡ Idle
full-idle true verdict idle = idle
full-idle false (Refuses refusal) idle = absurd (cc)
full-idle false (Tells view) idle = absurd (cc)
full-idle false Stays idle = refl
full-idle false (Makes reply after) idle = absurd (cc)

jobs-idle : IdleKeeps → (s : State) (moment : ℕ) (user : List ℕ) (action : Action) (named : JobRecord → Bool)
    → reply_by (change_made s moment user action named) ≡ Idle → IsSound s → change_after s moment user action named ≡ s
jobs-idle keeps s moment user action named idle =
    elim (cases_Bool (list_any (goes s user action named) s.jobs)) [
      | inl some ↦ let done = rw some at idle in absurd (cc)
      | inr none ↦ λ sound. keeps.jobs s moment user action named sound none
    ]

nodes-idle : IdleKeeps → (s : State) (moment : ℕ) (names : List (List ℕ)) (state : NodeOrder)
    → reply_by (update_made s moment names state) ≡ Idle → IsSound s → update_after s moment names state ≡ s
nodes-idle keeps s moment names state idle =
    elim (cases_Bool (changes_any s names state)) [
      | inl some ↦ let done = rw some at idle in absurd (cc)
      | inr none ↦ λ sound. keeps.nodes s moment names state sound none
    ]

confs-idle : IdleKeeps → (s : State) (moment : ℕ) (conf : ConfView)
    → reply_by (reconfigure_made s moment conf) ≡ Idle → IsSound s → reconfigured s moment conf ≡ s
confs-idle keeps s moment conf idle =
    elim (cases_Bool (is_same s conf)) [
      | inl is ↦ λ sound. keeps.confs s moment conf sound is
      | inr other ↦ let done = rw other at idle in absurd (cc)
    ]

partition-idle : (s : State) (state : PartState) (place : Option ℕ)
    → reply_by (partition_made s state place) ≡ Idle → IfSome place (λ there. partition_after s there state ≡ s)
partition-idle s state None idle = tt
partition-idle s state (Some place) idle =
    elim (cases_Bool (is_in_state state (slice_get s.partitions place))) [
      | inl had ↦ ap (λ partitions. record s { partitions = partitions }) (in-state-stays place state s.partitions had)
      | inr out ↦ let done = rw out at idle in absurd (cc)
    ]

made-idle : IdleKeeps → (s : State) (moment : ℕ) (user : List ℕ) (request : Request)
    → reply_by (made s moment user request) ≡ Idle → ChangesNothing s moment user request
made-idle keeps s moment user (Submit desc) idle =
    elim (basis_of s user desc)
    as (λ basis. reply_by (made_under s moment user desc basis) ≡ Idle → ⊥)
    [ None ↦ λ idle. absurd (cc) | Some basis ↦ λ idle. absurd (cc) ] idle
made-idle keeps s moment user (Cancel targets) idle =
    jobs-idle keeps s moment user act.Cancel (are_meant targets) idle
made-idle keeps s moment user (Hold targets for_owner) idle =
    jobs-idle keeps s moment user (act.Hold for_owner) (are_naming targets) idle
made-idle keeps s moment user (Release targets) idle =
    jobs-idle keeps s moment user act.Release (are_naming targets) idle
made-idle keeps s moment user (Requeue target) idle =
    jobs-idle keeps s moment user act.Requeue (are_naming (target ∷ [])) idle
made-idle keeps s moment user (UpdateJob target limit nice) idle =
    jobs-idle keeps s moment user (act.Update limit nice) (are_naming (target ∷ [])) idle
made-idle keeps s moment user (UpdateNode nodes state) idle = nodes-idle keeps s moment nodes state idle
made-idle keeps s moment user (UpdatePartition name state) idle =
    partition-idle s state (place_meant (Some name) s.partitions) idle
made-idle keeps s moment user (Report report) idle =
    elim (node_of s report)
    as (λ node. reply_by (made_by_report s moment report node) ≡ Idle → ⊥)
    [ None ↦ λ idle. absurd (cc) | Some node ↦ λ idle. absurd (cc) ] idle
made-idle keeps s moment user Pass idle = elim (cases_Bool (pass_is_idle s moment)) [
  | inl stays ↦ keeps.passes s moment stays
  | inr busy ↦ let passed = rw busy at idle in absurd (cc)
]
made-idle keeps s moment user (Reconfigure conf bytes) idle = confs-idle keeps s moment conf idle
made-idle keeps s moment user (CreateReservation desc) idle = absurd (cc)
made-idle keeps s moment user (DeleteReservation name) idle = absurd (cc)
made-idle keeps s moment user Shutdown idle = absurd (cc)
made-idle keeps s moment user (Show query) idle = absurd (cc)

-- A request that is idle is one that would change nothing.
pub step-idle : IdleKeeps → (s : State) (now : ℕ) (user : List ℕ) (request : Request)
    → reply_of s now user request ≡ Idle → ChangesNothing s (raised s now) user request
step-idle keeps s now user request idle =
    let moment = raised s now in
    let early = judged-idle (first_refusal (early_refusals s now request)) (worked s moment user request) idle in
    let judged = judged-idle (first_refusal (refusals_of s moment user request)) _ early in
    made-idle keeps s moment user request (full-idle (has_room s request) (made s moment user request) judged)
