-- A request is decided at its raised moment as at the one handed in.
use Rattle.std.proofs.Common.{◌≡◌, ◌∙◌, ◌<◌, ◌≤◌, ℕ, Bool, List, [], ◌∷◌, ap, sym, arith, inl, inr, if◌then◌else◌}
use Rattle.std.specs.Prelude.{nat_lt}
use Rattle.std.proofs.lemmas.Bool.{cases_Bool, lt-ltb, le-ltb, ltb-true, ltb-false}
use Rattle.reply_data.specs.declared.refusal.Refusal.TheVariants.{MomentTooLarge, ShuttingDown}
use Rattle.request_data.specs.declared.request.Request.{Request}
use Rattle.ctl_state.specs.State.{State, last_moment}
use Rattle.ctl_state.specs.Soundness.{IsSound}
use Rattle.ctl_state.specs.Refusals.{first_refusal, refused_if, unless_refused}
use Rattle.ctl_state.specs.Verdicts.{Verdict, reply_by, left_by}
use Rattle.ctl_core.specs.Sizes.{size_of}
use Rattle.ctl_core.specs.Step.{early_refusals, raised, worked, verdict_of, reply_of, state_after, entered, is_closed, is_entered}

raised-twice : (s : State) (now : ℕ) → raised s (raised s now) ≡ raised s now
raised-twice s now = omega arith

-- both moments are too large, or none
late-alike : (s : State) (now : ℕ) → IsSound s → nat_lt last_moment (raised s now) ≡ nat_lt last_moment now
late-alike s now sound = elim (cases_Bool (nat_lt last_moment now)) [
  | inl late ↦
      let above : last_moment < raised s now = omega (arith, ltb-true last_moment now late) in
      lt-ltb last_moment (raised s now) above ∙ sym late
  | inr early ↦
      let within : raised s now ≤ last_moment = omega (arith, ltb-false last_moment now early, sound.moment) in
      le-ltb last_moment (raised s now) within ∙ sym early
]

verdict-alike : (s : State) (now : ℕ) (user : List ℕ) (request : Request) → IsSound s
    → verdict_of s (raised s now) user request ≡ verdict_of s now user request
verdict-alike s now user request sound =
    ap (λ (late : Bool).
    unless_refused (first_refusal (refused_if late MomentTooLarge ∷ refused_if (is_closed s request) ShuttingDown ∷ []))
    (worked s (raised s (raised s now)) user request))
    (late-alike s now sound)
    ∙ ap (λ (moment : ℕ).
    unless_refused (first_refusal (early_refusals s now request)) (worked s moment user request))
    (raised-twice s now)

pub reply-alike : (s : State) (now : ℕ) (user : List ℕ) (request : Request) → IsSound s
    → reply_of s (raised s now) user request ≡ reply_of s now user request
reply-alike s now user request sound = ap reply_by (verdict-alike s now user request sound)

pub state-alike : (s : State) (now : ℕ) (user : List ℕ) (request : Request) → IsSound s
    → state_after s (raised s now) user request ≡ state_after s now user request
state-alike s now user request sound =
    ap (λ (verdict : Verdict).
    if is_entered (reply_by verdict)
    then entered (raised s (raised s now)) (size_of request) (left_by s verdict) else s)
    (verdict-alike s now user request sound)
    ∙ ap (λ (moment : ℕ).
    if is_entered (reply_of s now user request)
    then entered moment (size_of request) (left_by s (verdict_of s now user request)) else s)
    (raised-twice s now)
