-- What has come of a pass.
use Rattle.std.specs.Prelude.{◌≡◌, ℕ, Bool, true, false, length, Option, Some, None}
use Rattle.backfill_planner.specs.Plans.{PlannedView}
use Rattle.ctl_state.specs.State.{State}
use Rattle.ctl_pass.specs.Passing.{outcome}
use Rattle.ctl_node_side.specs.declared.passing.PassOutcome.{PassOutcome}
use Rattle.ctl_node_side.specs.declared.passing.PassOutcome.TheVariants.{Idle, Full, Passed}
use Rattle.ctl_node_side.specs.Passes.{after_pass, ended_by_pass, pass_is_idle}
use Rattle.ctl_node_side.specs.Silence.{silenced}

-- This has come of a pass in a state, and left that one: it is idle where it would change nothing, full where it would
-- and there is no room, and else it has changed the state.
abbrev pub Came : State → State → ℕ → Bool → PassOutcome → Type 0
Came s s' now room Idle = (pass_is_idle s now ≡ true) × (s' ≡ s)
Came s s' now room Full = (pass_is_idle s now ≡ false) × (room ≡ false) × (s' ≡ s)
Came s s' now room (Passed ended started planned) =
    (pass_is_idle s now ≡ false) × (room ≡ true) × (ended ≡ ended_by_pass s now)
    × (started ≡ length (outcome (silenced s now) now).starts)
    × (planned ≡ length (outcome (silenced s now) now).stays)
    × (s' ≡ after_pass s now)

-- the plan that a pass has made of these parts: none where there was no room for it
abbrev pub plan_made : PassOutcome → PlannedView → Option PlannedView
plan_made Idle parts = Some parts
plan_made Full parts = None
plan_made (Passed ended started planned) parts = Some parts
