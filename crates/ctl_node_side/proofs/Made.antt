-- The plan that a pass has made.
use Rattle.std.proofs.Common.{◌≡◌, ◌∙◌, ℕ, Option, ap, sym}
use Rattle.backfill_planner.specs.Plans.{PlannedView}
use Rattle.ctl_state.specs.State.{State}
use Rattle.ctl_pass.specs.Inputs.{input_of}
use Rattle.ctl_node_side.specs.declared.passing.PassOutcome.{PassOutcome}
use Rattle.ctl_node_side.specs.Came.{plan_made}
use Rattle.ctl_node_side.specs.Passes.{pass_input}
use Rattle.ctl_node_side.specs.Silence.{silenced}

-- it is that of the state in which the pass is worked
pub made-there : (s found : State) (now : ℕ) (outcome is : PassOutcome) (plan : Option PlannedView)
    → found ≡ silenced s now → outcome ≡ is → plan ≡ plan_made is (input_of found now)
    → plan ≡ plan_made outcome (pass_input s now)
made-there s found now outcome is plan same outcome_is made =
    made ∙ ap (plan_made is) (ap (λ (t : State). input_of t now) same)
    ∙ ap (λ (one : PassOutcome). plan_made one (pass_input s now)) (sym outcome_is)
