-- What a whole pass counts over an older plan.
use Rattle.std.proofs.Common.{◌≡◌, ℕ, Option, Some, None, IfSome, refl, subst, arith}
use Rattle.backfill_planner.specs.Plans.{PlannedView}
use Rattle.ctl_state.specs.State.{State}
use Rattle.ctl_pass.specs.Inputs.{IsSteppedOver}
use Rattle.ctl_node_side.specs.Passes.{IsPassedOver}
use Rattle.ctl_node_side.specs.Silence.{silenced}

-- where nothing was counted
pub not-over : (kept : Option PlannedView) (s : State) (now count : ℕ)
    → IfSome kept (λ old. IsPassedOver old s now count count)
not-over None s now count = tt
not-over (Some old) s now count = λ steady are. record { times = 0; few = omega arith; is = refl }

-- what is counted in the state that a pass finds
pub over-found : (kept : Option PlannedView) (s found : State) (now before after : ℕ) → found ≡ silenced s now
    → IfSome kept (λ old. IsSteppedOver old found now before after)
    → IfSome kept (λ old. IsPassedOver old s now before after)
over-found kept s found now before after is over =
    subst (λ (t : State). IfSome kept (λ old. IsSteppedOver old t now before after)) is over
