-- What contracts see of a controller.
use Rattle.std.specs.Prelude.{Option}
use Rattle.backfill_planner.specs.Plans.{PlannedView}
use Rattle.ctl_state.specs.State.{State}

pub record CtlView : Type 0 where
  pub state : State
  -- the plan of the last pass that passed or was idle, as what it was made of
  pub kept : Option PlannedView
