-- That what a pass plans keeps to the reservations.
use Rattle.std.specs.Prelude.{◌≡◌, ℕ, ◌<◌, ◌≤◌, Bool, ◌&&◌, true, nat_le, nat_lt, All, Any}
use Rattle.backfill_planner.specs.declared.Placed.{Placed}
use Rattle.backfill_planner.specs.declared.Share.{Share}
use Rattle.plain_data.specs.Rows.{has_id}
use Rattle.job_table.specs.declared.record.JobRecord.{JobRecord}
use Rattle.node_state.specs.declared.reservation_record.Reservation.{Reservation}
use Rattle.node_state.specs.Reservations.{lasting}
use Rattle.ctl_state.specs.Planning.{is_theirs}
use Rattle.ctl_state.specs.State.{State}
use Rattle.ctl_pass.specs.Limits.{limit_end}
use Rattle.ctl_pass.specs.Readiness.{placements, ready}
use Rattle.plain_data.specs.declared.seconds.TheConstants.{FOREVER}

-- the second is one of the reservation's time
abbrev pub is_in_time : ℕ → Reservation → Bool
is_in_time second reservation = nat_le reservation.start second && nat_lt second reservation.end

-- the second, before the end of all moments, is one of those of the placed job: from its start on, before its limit
pub record IsOfJob (job : JobRecord) (placed : Placed) (second : ℕ) : Type 0 where
  pub from : placed.start ≤ second
  pub before : second < limit_end job.limit placed.start
  pub last : second < FOREVER

-- where the placed job has a node of the reservation, each of its seconds is one of the reservation's time if the job
-- names the reservation, and none is if it doesn't
abbrev pub KeepsTo : JobRecord → Placed → Reservation → Type 0
KeepsTo job placed reservation =
    All
    (λ (share : Share). has_id reservation.nodes share.node ≡ true
    → (second : ℕ) → IsOfJob job placed second
    → is_in_time second reservation ≡ is_theirs job.terms.reservation reservation)
    placed.parts

-- each placement of a pass keeps its job to the reservations that aren't over
abbrev pub PlansKeepToReservations : State → ℕ → Type 0
PlansKeepToReservations s now =
    All
    (λ (placed : Placed).
    Any (λ (job : JobRecord). (job.id ≡ placed.id) × All (KeepsTo job placed) (lasting now s.reservations))
    (ready s now).jobs)
    (placements s now)
