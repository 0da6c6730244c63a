-- A step, whatever the sum of sizes: where more room is left it is answered alike, unless it is refused for want of it.
use Rattle.std.proofs.Common.{ℕ, ◌≡◌, ◌≢◌, ◌∙◌, ◌+◌, ◌≤◌, Bool, true, false, List, [], ◌∷◌, Option, Some, None, if◌then◌else◌, refl, ap, sym, subst, arith}
use Rattle.std.proofs.lemmas.Bool.{leb-true, le-leb}
use Rattle.reply_data.specs.declared.refusal.Refusal.{Refusal}
use Rattle.reply_data.specs.declared.refusal.Refusal.TheVariants.{HistoryFull}
use Rattle.reply_data.specs.declared.reply.Reply.TheVariants.{Refused}
use Rattle.request_data.specs.declared.request.Request.{Request}
use Rattle.request_data.specs.declared.request.Request.TheVariants.{Submit, Cancel, Hold, Release, Requeue, UpdateJob, UpdateNode, UpdatePartition, Report, Pass, Shutdown, Reconfigure, Show}
use Rattle.node_state.specs.Partitions.{place_meant}
use Rattle.ctl_state.specs.Refusals.{first_refusal, unless_refused}
use Rattle.ctl_state.specs.State.{State, last_size}
use Rattle.ctl_state.specs.Verdicts.{Verdict, Refuses, Tells, Stays, Makes, left_by, reply_by}
use Rattle.ctl_jobs.specs.declared.action.Action.TheVariants as act
use Rattle.ctl_jobs.specs.Changing.{are_meant, are_naming}
use Rattle.ctl_core.specs.Sizes.{has_room, size_of}
use Rattle.ctl_core.specs.Step.{early_refusals, entered, is_closed, is_entered, made, raised, refusals_of, reply_of, state_after, unless_full, verdict_of, worked}
use Rattle.saved_laws.specs.Rooms.{IsNoFuller, sized}
use Rattle.saved_laws.proofs.JobsSized.{cancel_refusals_sized, change_made_sized, refusals_sized}
use Rattle.saved_laws.proofs.NodesSized.{partition_made_sized, reconfigure_made_sized, reconfigure_refusals_sized, report_made_sized, update_made_sized}
use Rattle.saved_laws.proofs.PassesSized.{made_by_pass_sized}
use Rattle.saved_laws.proofs.Resized.{sized_by}
use Rattle.saved_laws.proofs.ShowingSized.{show_refusals_sized, view_of_sized}
use Rattle.saved_laws.proofs.SubmittingSized.{submit_made_sized, submit_refusals_sized}

-- no refusal that stands before the room is looked at depends on it
refusals-of-sized : (size : ℕ) (s : State) (moment : ℕ) (user : List ℕ) (request : Request)
    → refusals_of (sized size s) moment user request ≡ refusals_of s moment user request
refusals-of-sized size s moment user (Submit desc) = submit_refusals_sized size s moment user desc
refusals-of-sized size s moment user (Cancel targets) = cancel_refusals_sized size s user targets
refusals-of-sized size s moment user (Hold targets for_owner) = refusals_sized size s user (act.Hold for_owner) targets
refusals-of-sized size s moment user (Release targets) = refusals_sized size s user act.Release targets
refusals-of-sized size s moment user (Requeue target) = refusals_sized size s user act.Requeue (target ∷ [])
refusals-of-sized size s moment user (UpdateJob target limit nice) =
    refusals_sized size s user (act.Update limit nice) (target ∷ [])
refusals-of-sized size s moment user (Reconfigure conf bytes) = reconfigure_refusals_sized size s user conf
refusals-of-sized size s moment user (Show query) = show_refusals_sized size s query
refusals-of-sized size s moment user request = refl

-- what a request makes that isn't refused is the same
made-sized : (size : ℕ) (s : State) (moment : ℕ) (user : List ℕ) (request : Request)
    → made (sized size s) moment user request ≡ sized_by size (made s moment user request)
made-sized size s moment user (Submit desc) = submit_made_sized size s moment user desc
made-sized size s moment user (Cancel targets) = change_made_sized size s moment user act.Cancel (are_meant targets)
made-sized size s moment user (Hold targets for_owner) =
    change_made_sized size s moment user (act.Hold for_owner) (are_naming targets)
made-sized size s moment user (Release targets) = change_made_sized size s moment user act.Release (are_naming targets)
made-sized size s moment user (Requeue target) =
    change_made_sized size s moment user act.Requeue (are_naming (target ∷ []))
made-sized size s moment user (UpdateJob target limit nice) =
    change_made_sized size s moment user (act.Update limit nice) (are_naming (target ∷ []))
made-sized size s moment user (UpdateNode nodes state) = update_made_sized size s moment nodes state
made-sized size s moment user (UpdatePartition name state) =
    partition_made_sized size s state (place_meant (Some name) s.partitions)
made-sized size s moment user (Report report) = report_made_sized size s moment report
made-sized size s moment user Pass = made_by_pass_sized size s moment
made-sized size s moment user (Reconfigure conf bytes) = reconfigure_made_sized size s moment conf
made-sized size s moment user (Show query) = ap Tells (view_of_sized size s moment user query)
made-sized size s moment user request = refl

-- where a request has room, it has it in a history that is no fuller
roomier : (size : ℕ) (s : State) (request : Request) → size ≤ s.size → has_room s request ≡ true
    → has_room (sized size s) request ≡ true
roomier size s Shutdown less room = refl
roomier size s request less room =
    let fits : s.size + size_of request ≤ last_size = leb-true (s.size + size_of request) last_size room in
    le-leb (size + size_of request) last_size (omega (arith, fits, less))

-- what comes of a verdict, where the one has room if the other has
by-rooms : (size : ℕ) (one other : Bool) (verdict : Verdict) → (one ≡ true → other ≡ true)
    → reply_by (unless_full one verdict) ≢ Refused HistoryFull
    → unless_full other (sized_by size verdict) ≡ sized_by size (unless_full one verdict)
by-rooms size true true verdict room full = refl
by-rooms size true false verdict room full = absurd (let never = room refl in cc)
by-rooms size false true (Refuses refusal) room full = refl
by-rooms size false true (Tells view) room full = refl
by-rooms size false true Stays room full = refl
by-rooms size false true (Makes reply after) room full = absurd (full refl)
by-rooms size false false (Refuses refusal) room full = refl
by-rooms size false false (Tells view) room full = refl
by-rooms size false false Stays room full = refl
by-rooms size false false (Makes reply after) room full = absurd (full refl)

by-refusals : (size : ℕ) (refusal : Option Refusal) (one other : Verdict)
    → (reply_by one ≢ Refused HistoryFull → other ≡ sized_by size one)
    → reply_by (unless_refused refusal one) ≢ Refused HistoryFull
    → unless_refused refusal other ≡ sized_by size (unless_refused refusal one)
by-refusals size None one other alike full = alike full
by-refusals size (Some refusal) one other alike full = refl

worked-sized : (size : ℕ) (s : State) (moment : ℕ) (user : List ℕ) (request : Request) → size ≤ s.size
    → reply_by (worked s moment user request) ≢ Refused HistoryFull
    → worked (sized size s) moment user request ≡ sized_by size (worked s moment user request)
worked-sized size s moment user request less full =
    ap (λ refusals. unless_refused (first_refusal refusals)
    (unless_full (has_room (sized size s) request) (made (sized size s) moment user request)))
    (refusals-of-sized size s moment user request)
    ∙ by-refusals size (first_refusal (refusals_of s moment user request))
    (unless_full (has_room s request) (made s moment user request)) _
    (λ full. ap (unless_full (has_room (sized size s) request)) (made-sized size s moment user request)
    ∙ by-rooms size (has_room s request) (has_room (sized size s) request) (made s moment user request)
    (roomier size s request less) full)
    full

is-closed-sized : (size : ℕ) (s : State) (request : Request) → is_closed (sized size s) request ≡ is_closed s request
is-closed-sized size s (Show query) = refl
is-closed-sized size s request = refl

verdict-sized : (size : ℕ) (s : State) (now : ℕ) (user : List ℕ) (request : Request) → size ≤ s.size
    → reply_of s now user request ≢ Refused HistoryFull
    → verdict_of (sized size s) now user request ≡ sized_by size (verdict_of s now user request)
verdict-sized size s now user request less full =
    rw (is-closed-sized size s request)
    (by-refusals size (first_refusal (early_refusals s now request)) (worked s (raised s now) user request) _
    (worked-sized size s (raised s now) user request less) full)

reply-by-sized : (size : ℕ) (verdict : Verdict) → reply_by (sized_by size verdict) ≡ reply_by verdict
reply-by-sized size (Refuses refusal) = refl
reply-by-sized size (Tells view) = refl
reply-by-sized size Stays = refl
reply-by-sized size (Makes reply after) = refl

left-by-sized : (size : ℕ) (s : State) (verdict : Verdict)
    → left_by (sized size s) (sized_by size verdict) ≡ sized size (left_by s verdict)
left-by-sized size s (Refuses refusal) = refl
left-by-sized size s (Tells view) = refl
left-by-sized size s Stays = refl
left-by-sized size s (Makes reply after) = refl

reply-sized : (size : ℕ) (s : State) (now : ℕ) (user : List ℕ) (request : Request) → size ≤ s.size
    → reply_of s now user request ≢ Refused HistoryFull
    → reply_of (sized size s) now user request ≡ reply_of s now user request
reply-sized size s now user request less full =
    ap reply_by (verdict-sized size s now user request less full) ∙ reply-by-sized size (verdict_of s now user request)

pub reply_alike : (s t : State) (now : ℕ) (user : List ℕ) (request : Request) → IsNoFuller s t
    → reply_of s now user request ≢ Refused HistoryFull
    → reply_of t now user request ≡ reply_of s now user request
reply_alike s t now user request alike full =
    ap (λ (t : State). reply_of t now user request) alike.same ∙ reply-sized t.size s now user request alike.size full

-- what is left of a state by what comes of a request has its sum of sizes
left-size : (s : State) (now : ℕ) (user : List ℕ) (request : Request)
    → reply_of s now user request ≢ Refused HistoryFull
    → (left_by s (verdict_of s now user request)).size ≡ s.size
left-size s now user request full =
    let same : verdict_of s now user request ≡ sized_by s.size (verdict_of s now user request) =
    verdict-sized s.size s now user request (omega arith) full in
    ap (λ (verdict : Verdict). (left_by s verdict).size) same
    ∙ ap (λ (t : State). t.size) (left-by-sized s.size s (verdict_of s now user request))

-- the state that a verdict leaves, once it is entered
entered-sized : (size : ℕ) (s : State) (moment more : ℕ) (verdict : Verdict)
    → (if is_entered (reply_by (sized_by size verdict))
    then entered moment more (left_by (sized size s) (sized_by size verdict)) else sized size s)
    ≡ (if is_entered (reply_by verdict) then sized (size + more) (entered moment more (left_by s verdict)) else sized size s)
entered-sized size s moment more (Refuses refusal) = refl
entered-sized size s moment more (Tells view) = refl
entered-sized size s moment more Stays = refl
entered-sized size s moment more (Makes reply after) = refl

either-way : (is_entered : Bool) (made s : State) (larger size : ℕ) → larger ≤ made.size → size ≤ s.size
    → IsNoFuller (if is_entered then made else s) (if is_entered then sized larger made else sized size s)
either-way true made s larger size less small = record { same = refl; size = less }
either-way false made s larger size less small = record { same = refl; size = small }

state-sized : (size : ℕ) (s : State) (now : ℕ) (user : List ℕ) (request : Request) → size ≤ s.size
    → reply_of s now user request ≢ Refused HistoryFull
    → IsNoFuller (state_after s now user request) (state_after (sized size s) now user request)
state-sized size s now user request small full =
    let verdict = verdict_of s now user request in
    let more = size_of request in
    let made = entered (raised s now) more (left_by s verdict) in
    let same : state_after (sized size s) now user request
    ≡ (if is_entered (reply_by verdict) then sized (size + more) made else sized size s) =
    ap (λ (verdict : Verdict).
    if is_entered (reply_by verdict) then entered (raised s now) more (left_by (sized size s) verdict) else sized size s)
    (verdict-sized size s now user request small full)
    ∙ entered-sized size s (raised s now) more verdict in
    let left = left-size s now user request full in
    subst (IsNoFuller (state_after s now user request)) (sym same)
    (either-way (is_entered (reply_by verdict)) made s (size + more) size (omega (arith, left, small)) small)

pub state_alike : (s t : State) (now : ℕ) (user : List ℕ) (request : Request) → IsNoFuller s t
    → reply_of s now user request ≢ Refused HistoryFull
    → IsNoFuller (state_after s now user request) (state_after t now user request)
state_alike s t now user request alike full =
    subst (λ (u : State). IsNoFuller (state_after s now user request) (state_after u now user request)) (sym alike.same)
    (state-sized t.size s now user request alike.size full)
