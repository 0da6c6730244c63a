-- The plan that is kept after a request, and what is counted.
use Rattle.std.proofs.Common.{◌≡◌, ◌≢◌, ◌∙◌, ℕ, Bool, true, false, List, Option, Some, None, Result, Ok, Err, IfSome, if◌then◌else◌, refl, sym, ap, arith, subst}
use Rattle.std.specs.Prelude.{nat_lt, IfNone}
use Rattle.resource_profile.specs.Counts.{IsTickedUpTo}
use Rattle.request_data.specs.declared.request.Request.{Request}
use Rattle.request_data.specs.declared.request.Request.TheVariants.{Pass}
use Rattle.reply_data.specs.declared.refusal.Refusal.{Refusal}
use Rattle.reply_data.specs.declared.refusal.Refusal.TheVariants.{MomentTooLarge, ShuttingDown}
use Rattle.reply_data.specs.declared.reply.Reply.{Reply}
use Rattle.reply_data.specs.declared.reply.Reply.TheVariants.{Refused}
use Rattle.backfill_planner.specs.Plans.{PlannedView}
use Rattle.ctl_state.specs.State.{State, last_moment}
use Rattle.ctl_node_side.specs.Passes.{pass_input}
use Rattle.ctl_core.specs.declared.reply.Answered.{Answered}
use Rattle.ctl_core.specs.Answering.{Answers, HasPlanned, IsCounted}
use Rattle.ctl_core.specs.Step.{has_planned, is_closed, is_made, kept_after, nearest, raised, reply_of, worked}
use Rattle.ctl_core.proofs.Hinted.{not-hinted}
use Rattle.ctl_core.proofs.Stamping.{reply-worked, steps-worked}

-- a refused request makes no plan, nor does any but a pass
made-refused : (request : Request) (reply : Reply) (refusal : Refusal) → reply ≡ Refused refusal
    → has_planned request reply ≡ false
made-refused Pass reply refusal is = ap is_made is
made-refused request reply refusal is = refl

pub refused-keeps : (s : State) (kept : Option PlannedView) (now : ℕ) (user : List ℕ) (request : Request)
    (refusal : Refusal) → reply_of s now user request ≡ Refused refusal → kept ≡ kept_after s kept now user request
refused-keeps s kept now user request refusal is =
    sym (ap (λ (b : Bool). if b then Some (pass_input s (raised s now)) else kept)
    (made-refused request (reply_of s now user request) refusal is))

pub kept-refused : (s : State) (kept : Option PlannedView) (now : ℕ) (user : List ℕ) (refusal : Refusal)
    → reply_of s now user Pass ≡ Refused refusal → kept_after s kept now user Pass ≡ kept
kept-refused s kept now user refusal is = sym (refused-keeps s kept now user Pass refusal is)

pub kept-others : (s : State) (kept : Option PlannedView) (now : ℕ) (user : List ℕ) (request : Request)
    → request ≢ Pass → kept_after s kept now user request ≡ kept
kept-others s kept now user Pass other = absurd (other refl)
kept-others s kept now user request other = refl

-- a request that was worked keeps the plan of a pass that was made
kept-worked : (E : Type 0) (request : Request) (s : State) (moment : ℕ) (user : List ℕ)
    (older kept kept' : Option PlannedView) (steps steps' : ℕ) (answered : Answered)
    → HasPlanned {E = E} request s moment user older kept kept' steps steps' (Ok answered)
    → kept' ≡ (if has_planned request answered.reply then Some (pass_input s moment) else kept)
kept-worked E Pass s moment user older kept kept' steps steps' answered has = has.kept
kept-worked E request s moment user older kept kept' steps steps' answered has = has.0

pub kept-as : (E : Type 0) (request : Request) (s middle : State) (now : ℕ) (user : List ℕ)
    (older kept kept' : Option PlannedView) (steps steps' : ℕ) (answered : Answered)
    → nat_lt last_moment now ≡ false → is_closed s request ≡ false
    → Answers s middle (worked s (raised s now) user request) answered
    → HasPlanned {E = E} request s (raised s now) user older kept kept' steps steps' (Ok answered)
    → kept' ≡ kept_after s kept now user request
kept-as E request s middle now user older kept kept' steps steps' answered early accepts answers has =
    kept-worked E request s (raised s now) user older kept kept' steps steps' answered has
    ∙ ap (λ (reply : Reply). if has_planned request reply then Some (pass_input s (raised s now)) else kept)
    (reply-worked s middle now user request answered early accepts answers)

-- and after want of memory the one that was kept
pub kept-err : {E : Type 0} (request : Request) (s : State) (moment : ℕ) (user : List ℕ)
    (older kept kept' : Option PlannedView) (steps steps' : ℕ) (error : E)
    → HasPlanned request s moment user older kept kept' steps steps' (Err error) → kept' ≡ kept
kept-err Pass s moment user older kept kept' steps steps' error has = has.kept_err
kept-err request s moment user older kept kept' steps steps' error has = has.0

-- a request that isn't worked counts nothing
pub not-counted : (request : Request) (s : State) (now : ℕ) (user : List ℕ) (older : Option PlannedView) (count : ℕ)
    → IsCounted request s now user older count count
not-counted Pass s now user older count = (
  record { times = 0; few = omega arith; is = refl },
  not-hinted older s now count,
)
not-counted request s now user older count = refl

pub counted-worked : {E : Type 0} (request : Request) (s : State) (now : ℕ) (user : List ℕ)
    (older kept kept' : Option PlannedView) (steps steps' : ℕ) (result : Result Answered E)
    → nat_lt last_moment now ≡ false → is_closed s request ≡ false
    → HasPlanned request s (raised s now) user older kept kept' steps steps' result
    → IsCounted request s now user older steps steps'
counted-worked Pass s now user older kept kept' steps steps' result early accepts has = (
  subst (λ (count : ℕ). IsTickedUpTo count steps steps') (sym (steps-worked s now user early accepts)) has.steps,
  has.over,
)
counted-worked request s now user older kept kept' steps steps' result early accepts has = has.1

-- what is counted over the nearest plan is over the hint, or else over the kept one
pub over-hint : (hint kept : Option PlannedView) (P : PlannedView → Type 0)
    → IfSome (nearest hint kept) P → IfSome hint P
over-hint None kept P over = tt
over-hint (Some one) kept P over = over

pub over-kept : (hint kept : Option PlannedView) (P : PlannedView → Type 0)
    → IfSome (nearest hint kept) P → IfNone hint (IfSome kept P)
over-kept None kept P over = over
over-kept (Some one) kept P over = tt

-- a request that is refused before all else keeps the plan
pub late-keeps : (s : State) (kept : Option PlannedView) (now : ℕ) (user : List ℕ) (request : Request)
    → nat_lt last_moment now ≡ true → kept ≡ kept_after s kept now user request
late-keeps s kept now user request late =
    refused-keeps s kept now user request MomentTooLarge (rw late refl)

pub closed-keeps : (s : State) (kept : Option PlannedView) (now : ℕ) (user : List ℕ) (request : Request)
    → nat_lt last_moment now ≡ false → is_closed s request ≡ true → kept ≡ kept_after s kept now user request
closed-keeps s kept now user request early closed =
    refused-keeps s kept now user request ShuttingDown (rw (early, closed) refl)
