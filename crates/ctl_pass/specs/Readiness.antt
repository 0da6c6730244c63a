-- The state that a pass plans, and the plan.
use Rattle.std.specs.Prelude.{◌≡◌, ℕ, ◌+◌, ◌*◌, Bool, ◌&&◌, not, List, map, filter, flat_map}
use Rattle.backfill_planner.specs.declared.Placed.{Placed}
use Rattle.backfill_planner.specs.Bases.{BaseView}
use Rattle.backfill_planner.specs.Plans.{plan_of}
use Rattle.job_table.specs.declared.record.JobRecord.{JobRecord}
use Rattle.ctl_state.specs.Events.{become, those_left}
use Rattle.ctl_state.specs.Planning.{room_of}
use Rattle.job_table.specs.Targets.{is_task_of}
use Rattle.ctl_state.specs.declared.record.ArrayRecord.{ArrayRecord}
use Rattle.ctl_state.specs.State.{State}
use Rattle.std.specs.List.{list_any}
use Rattle.ctl_waiting.specs.Candidates.{ranked}
use Rattle.ctl_pass.specs.Limits.{timed_out, holds_of_job}
use Rattle.job_table.specs.Awaiting.{is_awaited}
use Rattle.job_table.specs.Table.{is_old}
use Rattle.node_state.specs.Reservations.{lasting}

-- the record of a job goes once it is old, where no pending job waits for it
abbrev pub goes : State → ℕ → JobRecord → Bool
goes s now job = is_old s.settings.min_job_age now job && not (is_awaited s.jobs job)

-- the jobs that a pass plans: those past their limits are completing, and old ones are gone
abbrev pub jobs_left : State → ℕ → List JobRecord
jobs_left s now = those_left (timed_out now) (goes s now) s.jobs

-- the arrays of which there are tasks among the jobs
unfoldable pub arrays_left : List JobRecord → List ArrayRecord → List ArrayRecord
arrays_left jobs arrays = filter (λ (array : ArrayRecord). list_any (is_task_of array.id) jobs) arrays

-- the state that a pass plans: those past their limits are charged to their associations, and reservations that are
-- over are gone
abbrev pub ready : State → ℕ → State
ready s now = record (become now (map (timed_out now) s.jobs) s) {
  jobs = jobs_left s now;
  arrays = arrays_left (jobs_left s now) s.arrays;
  reservations = lasting now s.reservations;
}

-- what a plan at this moment begins with
unfoldable pub base_of : State → ℕ → BaseView
base_of s now = record {
  rooms = map room_of s.nodes;
  holds = flat_map (holds_of_job now) s.jobs;
  horizon = now + s.settings.bf_window * 60;
}

-- the plan from scratch
unfoldable pub planned : State → ℕ → List Placed
planned s now = plan_of (base_of s now) (ranked s now) now

-- the plan of a pass
abbrev pub placements : State → ℕ → List Placed
placements s now = planned (ready s now) now

-- the first steps of a pass change nothing of what the candidates need, nor of their order
abbrev pub RankedStays : Type 0
RankedStays = (s : State) (now : ℕ) → ranked (ready s now) now ≡ ranked s now
