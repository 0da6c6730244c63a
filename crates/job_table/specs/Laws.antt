-- What changes nothing of what jobs wait for.
use Rattle.std.specs.Prelude.{◌≡◌, Bool, true, false, not, List, map, filter, All}
use Rattle.std.specs.List.{Contains}
use Rattle.job_table.specs.declared.record.JobRecord.{JobRecord}
use Rattle.job_table.specs.JobStates.{is_ended, is_pending}
use Rattle.job_table.specs.Awaiting.{is_awaited}
use Rattle.job_table.specs.Standing.{standing}

-- A job that becomes another is the same for those who wait for it: it doesn't start, and doesn't come to its end.
pub record SameForOthers (job after : JobRecord) : Type 0 where
  pub id : after.id ≡ job.id
  pub array : after.array ≡ job.array
  pub user : after.user ≡ job.user
  pub index : after.index ≡ job.index
  pub terms : after.terms ≡ job.terms
  pub starts : after.starts ≡ job.starts
  pub ended : is_ended after.state ≡ is_ended job.state
  pub final : is_ended job.state ≡ true → after.state ≡ job.state

-- a job has ended, and no one waits for it
abbrev pub IsDoneWith : List JobRecord → JobRecord → Type 0
IsDoneWith jobs job = (is_ended job.state ≡ true) × (is_awaited jobs job ≡ false)

-- It stands with what a pending job waits for as before where jobs become such others, and records go of jobs that are
-- done with.
abbrev pub PassesLeaveStandings : Type 0
PassesLeaveStandings = (jobs : List JobRecord) (change : JobRecord → JobRecord) (goes : JobRecord → Bool)
    (own : JobRecord)
    → Contains jobs own → is_pending own.state ≡ true
    → All (λ job. SameForOthers job (change job)) jobs
    → All (λ job. goes (change job) ≡ true → IsDoneWith jobs job) jobs
    → standing (filter (λ job. not (goes job)) (map change jobs)) own ≡ standing jobs own
