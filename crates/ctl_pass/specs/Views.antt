-- What contracts see of the input of a plan.
use Rattle.std.specs.Prelude.{Option}
use Rattle.backfill_planner.specs.Plans.{PlannedView}

-- what the plan is made of, and an older plan
pub record InputView : Type 0 where
  pub parts : PlannedView
  pub kept : Option PlannedView
