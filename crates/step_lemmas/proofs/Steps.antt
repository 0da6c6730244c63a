-- What a step comes to: the state as it was, or what an allowed request makes of it.
use Rattle.std.proofs.Common.{ℕ, ◌≡◌, ◌≤◌, Bool, true, false, List, [], ◌∷◌, Option, Some, None, if◌then◌else◌, refl}
use Rattle.std.specs.Prelude.{nat_lt}
use Rattle.std.proofs.lemmas.Bool.{cond_both, ltb-false}
use Rattle.reply_data.specs.declared.refusal.Refusal.{Refusal}
use Rattle.reply_data.specs.declared.refusal.Refusal.TheVariants.{MomentTooLarge, ShuttingDown}
use Rattle.reply_data.specs.declared.reply.Reply.{Reply}
use Rattle.reply_data.specs.declared.reply.Reply.TheVariants.{Idle, Refused, Shown}
use Rattle.reply_data.specs.declared.view.View.{View}
use Rattle.request_data.specs.declared.request.Request.{Request}
use Rattle.ctl_state.specs.Refusals.{first_refusal, refused_if, unless_refused}
use Rattle.ctl_state.specs.State.{State, last_moment}
use Rattle.ctl_state.specs.Verdicts.{Verdict, Refuses, Tells, Stays, Makes, left_by, reply_by}
use Rattle.ctl_core.specs.Sizes.{has_room, size_of}
use Rattle.ctl_core.specs.Step.{entered, is_closed, is_entered, made, raised, refusals_of, reply_of, state_after, unless_full, verdict_of, worked}
use Rattle.step_lemmas.proofs.Making.{MayMake, made_by, made_kind}

-- The request comes in time, none of its refusals stands, and it makes this, of one of the kinds.
pub record IsMade (s : State) (now : ℕ) (user : List ℕ) (request : Request) (reply : Reply) (after : State)
    : Type 0 where
  pub in_time : now ≤ last_moment
  pub allowed : first_refusal (refusals_of s (raised s now) user request) ≡ None
  pub makes : made s (raised s now) user request ≡ Makes reply after
  pub kind : MayMake s (raised s now) user request after

-- The request comes in time, and changes nothing.
pub record IsIdle (s : State) (now : ℕ) (user : List ℕ) (request : Request) : Type 0 where
  pub in_time : now ≤ last_moment
  pub stays : made s (raised s now) user request ≡ Stays

-- what holds of what a verdict makes, and what holds where it leaves the state as it is
abbrev ComesTo : (Reply → State → Type 0) → Type 0 → Verdict → Type 0
ComesTo Q I (Refuses refusal) = Unit {0}
ComesTo Q I (Tells view) = Unit {0}
ComesTo Q I Stays = I
ComesTo Q I (Makes reply after) = Q reply after

by-itself : (Q : Reply → State → Type 0) (I : Type 0) (verdict : Verdict) → (verdict ≡ Stays → I)
    → ((reply : Reply) (after : State) → verdict ≡ Makes reply after → Q reply after) → ComesTo Q I verdict
by-itself Q I (Refuses refusal) stays makes = tt
by-itself Q I (Tells view) stays makes = tt
by-itself Q I Stays stays makes = stays refl
by-itself Q I (Makes reply after) stays makes = makes reply after refl

by-room : (Q : Reply → State → Type 0) (I : Type 0) (room : Bool) (verdict : Verdict) → ComesTo Q I verdict
    → ComesTo Q I (unless_full room verdict)
by-room Q I true verdict by = by
by-room Q I false (Refuses refusal) by = tt
by-room Q I false (Tells view) by = tt
by-room Q I false Stays by = by
by-room Q I false (Makes reply after) by = tt

by-refusal : (Q : Reply → State → Type 0) (I : Type 0) (refusal : Option Refusal) (verdict : Verdict)
    → (refusal ≡ None → ComesTo Q I verdict) → ComesTo Q I (unless_refused refusal verdict)
by-refusal Q I None verdict by = by refl
by-refusal Q I (Some refusal) verdict by = tt

by-early : (s : State) (now : ℕ) (user : List ℕ) (request : Request) (early closed : Bool)
    → nat_lt last_moment now ≡ early
    → ComesTo (IsMade s now user request) (IsIdle s now user request)
    (unless_refused (first_refusal (refused_if early MomentTooLarge ∷ refused_if closed ShuttingDown ∷ []))
    (worked s (raised s now) user request))
by-early s now user request true closed is = tt
by-early s now user request false true is = tt
by-early s now user request false false is =
    let moment = raised s now in
    let Q = IsMade s now user request in
    let I = IsIdle s now user request in
    let in_time = ltb-false last_moment now is in
    by-refusal Q I (first_refusal (refusals_of s moment user request)) _
    (λ none. by-room Q I (has_room s request) (made s moment user request)
    (by-itself Q I (made s moment user request) (λ stays. record { in_time = in_time; stays = stays })
    (λ reply after makes. record {
      in_time = in_time;
      allowed = none;
      makes = makes;
      kind = made_by (λ reply (after : State). MayMake s moment user request after) (made_kind s moment user request) makes;
    })))

by-left : (P : Reply → State → Type 0) (Q : Reply → State → Type 0) (I : Type 0) (s : State) (moment size : ℕ)
    (verdict : Verdict) → ((refusal : Refusal) → P (Refused refusal) s) → ((view : View) → P (Shown view) s)
    → (I → P Idle s)
    → ((reply : Reply) (after : State) → Q reply after → is_entered reply ≡ true → P reply (entered moment size after))
    → ((reply : Reply) (after : State) → Q reply after → is_entered reply ≡ false → P reply s) → ComesTo Q I verdict
    → P (reply_by verdict) (if is_entered (reply_by verdict) then entered moment size (left_by s verdict) else s)
by-left P Q I s moment size (Refuses refusal) refused shown idle other same by = refused refusal
by-left P Q I s moment size (Tells view) refused shown idle other same by = shown view
by-left P Q I s moment size Stays refused shown idle other same by = idle by
by-left P Q I s moment size (Makes reply after) refused shown idle other same by =
    cond_both (is_entered reply) (entered moment size after) s (P reply) (λ enters. other reply after by enters)
    (λ not. same reply after by not)

-- The normal form of a step: what holds of each reply that leaves the state as it is, with that state, and of each reply
-- that an allowed request makes with a state, once that bears its moment and size, holds of the step's reply and state.
pub step_says : (P : Reply → State → Type 0) (s : State) (now : ℕ) (user : List ℕ) (request : Request)
    → ((refusal : Refusal) → P (Refused refusal) s) → ((view : View) → P (Shown view) s)
    → (IsIdle s now user request → P Idle s)
    → ((reply : Reply) (after : State) → IsMade s now user request reply after → is_entered reply ≡ true
    → P reply (entered (raised s now) (size_of request) after))
    → ((reply : Reply) (after : State) → IsMade s now user request reply after → is_entered reply ≡ false → P reply s)
    → P (reply_of s now user request) (state_after s now user request)
step_says P s now user request refused shown idle other same =
    by-left P (IsMade s now user request) (IsIdle s now user request) s (raised s now) (size_of request)
    (verdict_of s now user request) refused shown idle other same
    (by-early s now user request (nat_lt last_moment now) (is_closed s request) refl)

-- The same of the state alone.
pub step_is : (P : State → Type 0) (s : State) (now : ℕ) (user : List ℕ) (request : Request) → P s
    → ((reply : Reply) (after : State) → IsMade s now user request reply after
    → P (entered (raised s now) (size_of request) after))
    → P (state_after s now user request)
step_is P s now user request same other =
    step_says (λ reply (t : State). P t) s now user request (λ refusal. same) (λ view. same) (λ idle. same)
    (λ reply after is enters. other reply after is) (λ reply after is not. same)
