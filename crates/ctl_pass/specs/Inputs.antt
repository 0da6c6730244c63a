-- What a pass makes its plan of, and how little of it is searched for over an older plan.
use Rattle.std.specs.Prelude.{ℕ, Bool, length}
use Rattle.resource_profile.specs.Counts.{IsTickedUpTo}
use Rattle.backfill_planner.specs.Plans.{PlannedView}
use Rattle.plan_keeper.specs.Steady.{AreSteady, others}
use Rattle.ctl_state.specs.State.{State}
use Rattle.ctl_waiting.specs.Candidates.{ranked}
use Rattle.ctl_pass.specs.Readiness.{ready, base_of}

-- what the plan of a pass is made of: the base and the candidates in rank order, as the first steps of the pass leave
-- them, and its moment
abbrev pub input_of : State → ℕ → PlannedView
input_of s now = record { base = base_of (ready s now) now; ranked = ranked (ready s now) now; moment = now }

-- A plan of these parts counts, over an older one, at most one step for each of its jobs that doesn't stand as it stood
-- there.
abbrev pub CountsOver : PlannedView → PlannedView → ℕ → ℕ → Type 0
CountsOver old parts before after =
    (steady : ℕ → Bool) → AreSteady old parts.base parts.ranked parts.moment steady
    → IsTickedUpTo (others steady (length parts.ranked)) before after

-- So does that of a pass.
abbrev pub IsSteppedOver : PlannedView → State → ℕ → ℕ → ℕ → Type 0
IsSteppedOver old s now before after = CountsOver old (input_of s now) before after
