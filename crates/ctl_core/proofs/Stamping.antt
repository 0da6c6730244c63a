-- An answer, once it bears its moment and its size, is the step.
use Rattle.std.proofs.Common.{◌≡◌, ◌∙◌, ℕ, ◌+◌, ◌≤◌, ◌<◌, ◌^◌, Bool, true, false, List, Option, Some, None, ap, sym, subst, arith, refl, inl, inr, if◌then◌else◌}
use Rattle.std.specs.Prelude.{nat_lt, is_some, unwrap_or, IfSome}
use Rattle.std.proofs.lemmas.Bool.{cases_Bool}
use Rattle.request_data.specs.declared.request.Request.{Request}
use Rattle.ctl_state.specs.Refusals.{is_privileged}
use Rattle.ctl_state.specs.State.{State, last_moment, last_size, shutdown_size}
use Rattle.ctl_state.specs.Verdicts.{Verdict, reply_by, left_by}
use Rattle.ctl_node_side.specs.Passes.{planned_by_pass}
use Rattle.ctl_core.specs.declared.reply.Answered.{Answered}
use Rattle.ctl_core.specs.Answering.{Answers}
use Rattle.ctl_core.specs.Sizes.{has_room, size_of}
use Rattle.ctl_core.specs.Step.{raised, worked, verdict_of, reply_of, state_after, steps_of, entered, is_closed, is_entered}
use Rattle.ctl_core.proofs.Sized.{worked-entered}

-- what a verdict leaves, once it is stamped
stamped-as : (s middle after : State) (moment size asked : ℕ) (verdict : Verdict) (answered : Answered)
    → Answers s middle verdict answered → (is_entered (reply_by verdict) ≡ true → size ≡ asked)
    → after ≡ (if is_entered answered.reply then entered moment size middle else middle)
    → after ≡ (if is_entered (reply_by verdict) then entered moment asked (left_by s verdict) else s)
stamped-as s middle after moment size asked verdict answered answers sized stamped =
    elim (cases_Bool (is_entered (reply_by verdict))) [
      | inl enters ↦
          let told = ap is_entered answers.reply ∙ enters in
          let left = rw told at answers.after in
          let made = rw told at stamped in
          rw enters
          (made ∙ ap (λ (t : State). entered moment size t) left
          ∙ ap (λ (n : ℕ). entered moment n (left_by s verdict)) (sized enters))
      | inr stays ↦
          let told = ap is_entered answers.reply ∙ stays in
          rw stays ((rw told at stamped) ∙ (rw told at answers.after))
    ]

-- a request that is worked comes to what it is worked to
verdict-worked : (s : State) (now : ℕ) (user : List ℕ) (request : Request)
    → nat_lt last_moment now ≡ false → is_closed s request ≡ false
    → verdict_of s now user request ≡ worked s (raised s now) user request
verdict-worked s now user request early accepts = rw (early, accepts) refl

-- Where a request is worked, its answer is the step's reply.
pub reply-worked : (s middle : State) (now : ℕ) (user : List ℕ) (request : Request) (answered : Answered)
    → nat_lt last_moment now ≡ false → is_closed s request ≡ false
    → Answers s middle (worked s (raised s now) user request) answered
    → answered.reply ≡ reply_of s now user request
reply-worked s middle now user request answered early accepts answers =
    answers.reply ∙ sym (ap reply_by (verdict-worked s now user request early accepts))

-- Once it is stamped, the state is the step's.
pub state-worked : (s middle after : State) (now size : ℕ) (user : List ℕ) (request : Request) (answered : Answered)
    → nat_lt last_moment now ≡ false → is_closed s request ≡ false
    → Answers s middle (worked s (raised s now) user request) answered
    → (has_room s request ≡ true → size ≡ size_of request)
    → after ≡ (if is_entered answered.reply then entered (raised s now) size middle else middle)
    → after ≡ state_after s now user request
state-worked s middle after now size user request answered early accepts answers sized stamped =
    let moment = raised s now in
    let P = λ (verdict : Verdict).
    after ≡ (if is_entered (reply_by verdict) then entered moment (size_of request) (left_by s verdict) else s) in
    subst P (sym (verdict-worked s now user request early accepts))
    (stamped-as s middle after moment size (size_of request) (worked s moment user request) answered answers
    (λ enters. sized (worked-entered s moment user request enters)) stamped)

-- the size that is stamped is the request's where it has room, and fits in each case
pub size-asked : (size : Option ℕ) (room : Bool) (asked : ℕ) → is_some size ≡ room → IfSome size (λ n. n ≡ asked)
    → room ≡ true → unwrap_or size 0 ≡ asked
size-asked None room asked has value fits = absurd (cc)
size-asked (Some n) room asked has value fits = value

pub size-fits : (size : Option ℕ) → IfSome size (λ n. n ≤ last_size + shutdown_size)
    → unwrap_or size 0 ≤ last_size + shutdown_size
size-fits None fits = omega arith
size-fits (Some n) fits = fits

-- a pass that is worked counts what it plans, where it is allowed
pub steps-worked : (s : State) (now : ℕ) (user : List ℕ) → nat_lt last_moment now ≡ false → s.is_shut ≡ false
    → steps_of s now user ≡ (if is_privileged s user then planned_by_pass s (raised s now) else 0)
steps-worked s now user early accepts = rw (early, accepts) refl
