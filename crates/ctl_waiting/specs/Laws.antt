-- What stays of priorities while the jobs become others.
use Rattle.std.specs.Prelude.{◌≡◌, ℕ, Bool, true, false, not, List, filter, All}
use Rattle.std.specs.List.{AllZip}
use Rattle.job_table.specs.declared.record.JobRecord.{JobRecord}
use Rattle.job_table.specs.JobStates.{is_running}
use Rattle.job_table.specs.Usage.{RunsOn}
use Rattle.node_state.specs.declared.reservation_record.Reservation.{Reservation}
use Rattle.ctl_state.specs.declared.record.ArrayRecord.{ArrayRecord}
use Rattle.ctl_state.specs.Events.{become}
use Rattle.ctl_state.specs.State.{State}
use Rattle.ctl_waiting.specs.Priority.{parts_of}
use Rattle.ctl_waiting.specs.Rank.{is_higher}

-- the state once its jobs have become these, those that go are gone, and the arrays and reservations are these
abbrev pub left : ℕ → List JobRecord → (JobRecord → Bool) → List ArrayRecord → List Reservation → State → State
left now jobs goes arrays reservations s = record (become now jobs s) {
  jobs = filter (λ (job : JobRecord). not (goes job)) jobs;
  arrays = arrays;
  reservations = reservations;
}

-- What a job has used counts to its association in the same way while it runs, once it has left Running, and when its
-- record is gone: no priority changes.
abbrev pub PrioritiesStay : Type 0
PrioritiesStay = (s : State) (now : ℕ) (jobs : List JobRecord) (goes : JobRecord → Bool) (arrays : List ArrayRecord)
    (reservations : List Reservation)
    → AllZip (RunsOn now) s.jobs jobs → All (λ (job : JobRecord). goes job ≡ true → is_running job.state ≡ false) jobs
    → (job : JobRecord) → parts_of (left now jobs goes arrays reservations s) now job ≡ parts_of s now job

-- and so does no order of two jobs.
abbrev pub RanksStay : Type 0
RanksStay = (s : State) (now : ℕ) (jobs : List JobRecord) (goes : JobRecord → Bool) (arrays : List ArrayRecord)
    (reservations : List Reservation)
    → AllZip (RunsOn now) s.jobs jobs → All (λ (job : JobRecord). goes job ≡ true → is_running job.state ≡ false) jobs
    → (one other : JobRecord) → is_higher (left now jobs goes arrays reservations s) now one other ≡ is_higher s now one other
