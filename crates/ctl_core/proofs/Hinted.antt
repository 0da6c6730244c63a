-- A pass over the very plan of what it would plan counts nothing.
use Rattle.std.proofs.Common.{◌≡◌, ℕ, zero, suc, ◌≤◌, Bool, true, false, List, Option, Some, None, IfSome, refl, sym, ap, arith, subst, inl, inr}
use Rattle.std.specs.Prelude.{nat_lt, min}
use Rattle.std.proofs.lemmas.Bool.{cases_Bool}
use Rattle.std.proofs.lemmas.Bool.Decides.{nat_tests}
use Rattle.resource_profile.specs.Counts.{IsTickedUpTo, ticked}
use Rattle.backfill_planner.specs.Plans.{PlannedView}
use Rattle.ctl_state.specs.Soundness.{IsSound}
use Rattle.ctl_state.specs.State.{State, last_moment}
use Rattle.ctl_node_side.specs.Passes.{IsPassedOver, pass_input}
use Rattle.ctl_core.specs.Step.{IsHinted, input_at, raised, steps_of}

abbrev pub OwnCountsNothing : Type 0
OwnCountsNothing = (s : State) (now before after : ℕ) → IsSound s → s.moment ≤ now → now ≤ last_moment
    → IsPassedOver (pass_input s now) s now before after → after ≡ before

not-ticked : (times before after : ℕ) → times ≤ 0 → after ≡ ticked before times → after ≡ before
not-ticked zero before after none is = is
not-ticked (suc times) before after none is = absurd (omega (arith, none))

pub own-hint : OwnCountsNothing → (s : State) (now : ℕ) (user : List ℕ) (before after : ℕ) → IsSound s
    → IsTickedUpTo (steps_of s now user) before after → IsHinted (input_at s now) s now before after → after ≡ before
own-hint law s now user before after sound counted hinted = elim (cases_Bool (nat_lt last_moment now)) [
  | inl late ↦ not-ticked counted.times before after (rw late at counted.few) counted.is
  | inr early ↦
      let in_time : now ≤ last_moment = grind (arith, nat_tests) in
      let same : min now last_moment ≡ now = grind (arith, nat_tests) in
      law s (raised s now) before after sound (omega (arith)) (omega (arith, in_time, sound.moment))
      (subst (λ (n : ℕ). IsPassedOver (pass_input s (raised s n)) s (raised s now) before after) same hinted)
]

-- where nothing was counted
pub not-over : (kept : Option PlannedView) (s : State) (now count : ℕ)
    → IfSome kept (λ old. IsPassedOver old s now count count)
not-over None s now count = tt
not-over (Some old) s now count = λ steady are. record { times = 0; few = omega arith; is = refl }

pub not-hinted : (kept : Option PlannedView) (s : State) (now count : ℕ)
    → IfSome kept (λ old. IsHinted old s now count count)
not-hinted kept s now count = not-over kept s (raised s now) count

-- what is counted at the raised moment
pub hinted-raised : (kept : Option PlannedView) (s : State) (now moment before after : ℕ) → moment ≡ raised s now
    → IfSome kept (λ old. IsPassedOver old s moment before after)
    → IfSome kept (λ old. IsHinted old s now before after)
hinted-raised kept s now moment before after is over =
    subst (λ (n : ℕ). IfSome kept (λ old. IsPassedOver old s n before after)) is over

-- a hint is kept while the pass is made
pub by-hint : (hint kept : Option PlannedView) (s : State) (now before after : ℕ)
    → IfSome hint (λ one. kept ≡ Some one) → IfSome kept (λ old. IsHinted old s now before after)
    → IfSome hint (λ old. IsHinted old s now before after)
by-hint None kept s now before after taken over = tt
by-hint (Some one) kept s now before after taken over =
    subst (λ (some : Option PlannedView). IfSome some (λ old. IsHinted old s now before after)) taken over
