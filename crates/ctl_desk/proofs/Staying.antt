-- A controller that was shut down enters nothing more.
use Rattle.std.proofs.Common.{◌≡◌, ◌∙◌, ℕ, Bool, true, false, List, [], ◌∷◌, ◌++◌, Option, Some, None, refl, ap, if◌then◌else◌}
use Rattle.std.specs.Prelude.{nat_lt}
use Rattle.std.proofs.lemmas.Bool.{true≢false, false≢true}
use Rattle.request_data.specs.declared.request.Request.{Request}
use Rattle.request_data.specs.declared.request.Request.TheVariants.{Submit, Cancel, Hold, Release, Requeue, UpdateJob, UpdateNode, UpdatePartition, CreateReservation, DeleteReservation, Report, Pass, Shutdown, Reconfigure, Show}
use Rattle.reply_data.specs.declared.refusal.Refusal.{Refusal}
use Rattle.reply_data.specs.declared.refusal.Refusal.TheVariants.{MomentTooLarge, ShuttingDown}
use Rattle.reply_data.specs.declared.view.View.{View}
use Rattle.ctl_state.specs.State.{State, last_moment}
use Rattle.ctl_state.specs.Refusals.{refused_if, first_refusal, unless_refused}
use Rattle.ctl_state.specs.Verdicts.{Verdict, Tells, reply_by, left_by}
use Rattle.ctl_core.specs.Sizes.{has_room, size_of}
use Rattle.ctl_core.specs.Step.{entered, is_entered, raised, refusals_of, reply_of, state_after, unless_full, verdict_of, worked}
use Rattle.ctl_desk.specs.declared.entry.Entry.{Entry}
use Rattle.ctl_desk.specs.History.{after_all}

-- what is refused because all is shut down, or before, is not entered
closed_enters_none : (late closed : Bool) (verdict : Verdict) → closed ≡ true
    → is_entered (reply_by (unless_refused (first_refusal
    (refused_if late MomentTooLarge ∷ refused_if closed ShuttingDown ∷ [])) verdict)) ≡ false
closed_enters_none true closed verdict is = refl
closed_enters_none false true verdict is = refl
closed_enters_none false false verdict is = absurd (false≢true is)

-- nor is what is shown
shown_enters_none : (late room : Bool) (refusal : Option Refusal) (view : View)
    → is_entered (reply_by (unless_refused (first_refusal
    (refused_if late MomentTooLarge ∷ refused_if false ShuttingDown ∷ []))
    (unless_refused refusal (unless_full room (Tells view))))) ≡ false
shown_enters_none true room refusal view = refl
shown_enters_none false room (Some refusal) view = refl
shown_enters_none false true None view = refl
shown_enters_none false false None view = refl

enters_none : (s : State) (now : ℕ) (user : List ℕ) (request : Request) → s.is_shut ≡ true
    → is_entered (reply_of s now user request) ≡ false
enters_none s now user (Submit desc) shut = closed_enters_none (nat_lt last_moment now) s.is_shut (worked s (raised s now) user (Submit desc)) shut
enters_none s now user (Cancel targets) shut = closed_enters_none (nat_lt last_moment now) s.is_shut (worked s (raised s now) user (Cancel targets)) shut
enters_none s now user (Hold targets owner) shut = closed_enters_none (nat_lt last_moment now) s.is_shut (worked s (raised s now) user (Hold targets owner)) shut
enters_none s now user (Release targets) shut = closed_enters_none (nat_lt last_moment now) s.is_shut (worked s (raised s now) user (Release targets)) shut
enters_none s now user (Requeue target) shut = closed_enters_none (nat_lt last_moment now) s.is_shut (worked s (raised s now) user (Requeue target)) shut
enters_none s now user (UpdateJob target limit nice) shut = closed_enters_none (nat_lt last_moment now) s.is_shut (worked s (raised s now) user (UpdateJob target limit nice)) shut
enters_none s now user (UpdateNode nodes state) shut = closed_enters_none (nat_lt last_moment now) s.is_shut (worked s (raised s now) user (UpdateNode nodes state)) shut
enters_none s now user (UpdatePartition name state) shut = closed_enters_none (nat_lt last_moment now) s.is_shut (worked s (raised s now) user (UpdatePartition name state)) shut
enters_none s now user (CreateReservation desc) shut = closed_enters_none (nat_lt last_moment now) s.is_shut (worked s (raised s now) user (CreateReservation desc)) shut
enters_none s now user (DeleteReservation name) shut = closed_enters_none (nat_lt last_moment now) s.is_shut (worked s (raised s now) user (DeleteReservation name)) shut
enters_none s now user (Report report) shut = closed_enters_none (nat_lt last_moment now) s.is_shut (worked s (raised s now) user (Report report)) shut
enters_none s now user Pass shut = closed_enters_none (nat_lt last_moment now) s.is_shut (worked s (raised s now) user Pass) shut
enters_none s now user Shutdown shut = closed_enters_none (nat_lt last_moment now) s.is_shut (worked s (raised s now) user Shutdown) shut
enters_none s now user (Reconfigure conf bytes) shut = closed_enters_none (nat_lt last_moment now) s.is_shut (worked s (raised s now) user (Reconfigure conf bytes)) shut
enters_none s now user (Show query) shut =
    shown_enters_none (nat_lt last_moment now) (has_room s (Show query))
    (first_refusal (refusals_of s (raised s now) user (Show query))) _

if_not : {X : Type 0} (b : Bool) (x y : X) → b ≡ false → (if b then x else y) ≡ y
if_not true x y is = absurd (true≢false is)
if_not false x y is = refl

step_stays_shut : (s : State) (now : ℕ) (user : List ℕ) (request : Request) → s.is_shut ≡ true
    → (state_after s now user request).is_shut ≡ true
step_stays_shut s now user request shut =
    ap (λ (t : State). t.is_shut)
    (if_not (is_entered (reply_of s now user request))
    (entered (raised s now) (size_of request) (left_by s (verdict_of s now user request))) s
    (enters_none s now user request shut))
    ∙ shut

all_stay_shut : (s : State) (entries : List Entry) → s.is_shut ≡ true → (after_all s entries).is_shut ≡ true
all_stay_shut s [] shut = shut
all_stay_shut s (e ∷ entries) shut = all_stay_shut (state_after s e.moment e.user e.request) entries
    (step_stays_shut s e.moment e.user e.request shut)

pub stays_shut : (s : State) (entries more : List Entry) → (after_all s entries).is_shut ≡ true
    → (after_all s (entries ++ more)).is_shut ≡ true
stays_shut s [] more shut = all_stay_shut s more shut
stays_shut s (e ∷ entries) more shut = stays_shut (state_after s e.moment e.user e.request) entries more shut
