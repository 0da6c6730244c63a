-- The pending jobs that can be planned, highest in rank first, and what they need.
use Rattle.std.specs.Prelude.{ℕ, Bool, ◌&&◌, is_none, List, filter, filter_map, Option, Some}
use Rattle.small_texts.specs.Options.{◌>>=◌}
use Rattle.backfill_planner.specs.declared.job.PlanJob.{PlanJob}
use Rattle.node_state.specs.declared.partition_record.PartRecord.{PartRecord}
use Rattle.node_state.specs.declared.reservation_record.Reservation.{Reservation}
use Rattle.job_table.specs.declared.record.JobRecord.{JobRecord}
use Rattle.job_table.specs.JobStates.{is_pending}
use Rattle.ctl_state.specs.Ordered.{ordered_by}
use Rattle.node_state.specs.Reservations.{lasting}
use Rattle.ctl_state.specs.Planning.{barred_of, bounds_in, places_for, plan_job}
use Rattle.ctl_state.specs.State.{State, partition_of}
use Rattle.ctl_waiting.specs.Rank.{is_higher}
use Rattle.ctl_waiting.specs.Reasons.{hindrance}

-- a pending job can be planned at a moment where nothing hinders it
abbrev pub is_candidate : State → ℕ → JobRecord → Bool
is_candidate s now job = is_pending job.state && is_none (hindrance s now job)

-- the jobs that can be planned at a moment, highest in rank first
unfoldable pub candidates : State → ℕ → List JobRecord
candidates s now = ordered_by (is_higher s now) (filter (is_candidate s now) s.jobs)

-- what a job needs in this partition, on so many nodes at least and at most, beside these reservations
abbrev pub need_in : State → List Reservation → PartRecord → ℕ × ℕ → JobRecord → PlanJob
need_in s reservations partition bounds job =
    let places = places_for s.nodes reservations partition job.terms.reservation in
    plan_job s.nodes partition places (barred_of reservations job.terms.reservation) bounds job

-- what a job needs in its partition, beside the reservations that aren't over at the moment
unfoldable pub needs_of : State → ℕ → JobRecord → Option PlanJob
needs_of s now job = do
  partition ← partition_of s job
  bounds ← bounds_in partition job.terms
  Some (need_in s (lasting now s.reservations) partition bounds job)

-- what the candidates need
unfoldable pub ranked : State → ℕ → List PlanJob
ranked s now = filter_map (needs_of s now) (candidates s now)
