-- A plan that is made beside the book and handed in as the hint of a pass: what it counts.
use Rattle.std.specs.Prelude.{◌≡◌, ℕ, length}
use Rattle.resource_profile.specs.Counts.{IsTickedUpTo}
use Rattle.backfill_planner.specs.Plans.{PlannedView}
use Rattle.ctl_core.specs.Step.{IsHinted, input_at}
use Rattle.ctl_desk.specs.Desk.{Sight, GoesOn, history_of, seen, state_at}
use Rattle.ctl_desk.specs.History.{present}

-- what a pass would make its plan of after all that a desk has seen
abbrev pub input_there : Sight → ℕ → PlannedView
input_there desk now = input_at (present (history_of desk)) now

-- The planner took an input at a desk, made its plan beside the book, and handed it in for a pass at a place of what the
-- desk has seen at the end.
pub record IsPlannedBeside (desk desk' : Sight) (now place outside outside' inside inside' : ℕ) : Type 0 where
  -- the desk once it had taken the input
  pub middle : Sight
  pub before : GoesOn desk middle
  pub after : GoesOn middle desk'
  -- beside the book it counted at most a step for each job of the input
  pub beside_book : IsTickedUpTo (length (input_there middle now).ranked) outside outside'
  -- the pass counted at most one for each job that it planned and that didn't stand as it stood in the input's plan
  pub in_pass : IsHinted (input_there middle now) (state_at desk.opening (seen desk') place) now inside inside'
  -- and none where nothing came in between
  pub alone : place ≡ length (seen middle) → inside' ≡ inside
