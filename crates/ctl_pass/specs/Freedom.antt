-- That the starts of a pass are of jobs which nothing hinders.
use Rattle.std.specs.Prelude.{◌≡◌, ℕ, ◌<◌, true, length, take, fold, slice_index_or, All, Any}
use Rattle.backfill_planner.specs.declared.Placed.{Placed}
use Rattle.job_table.specs.declared.record.JobRecord.{JobRecord}
use Rattle.ctl_state.specs.State.{State}
use Rattle.ctl_pass.specs.Passing.{outcome}
use Rattle.ctl_waiting.specs.Candidates.{is_candidate}
use Rattle.ctl_pass.specs.Readiness.{jobs_left, placements, ready}
use Rattle.ctl_pass.specs.Reserved.{PlansKeepToReservations}
use Rattle.ctl_pass.specs.Starting.{JobStart, begun, may_start}

-- What a pass in this state plans is of candidates, which nothing hinders, and keeps to the reservations; and just
-- before each of its starts that job reaches no limit, beside the jobs that hold processors then, those that it started
-- before among them.
pub record StartsAreFree (s : State) (now : ℕ) : Type 0 where
  pub planned : All (λ (placed : Placed).
      Any (λ (job : JobRecord). (job.id ≡ placed.id) × (is_candidate (ready s now) now job ≡ true)) (ready s now).jobs)
      (placements s now)
  pub reserved : PlansKeepToReservations s now
  pub free : (k : ℕ) (d : JobStart) → k < length (outcome s now).starts
      → may_start s (fold (begun now) (jobs_left s now) (take k (outcome s now).starts))
      (slice_index_or (outcome s now).starts k d).id ≡ true
