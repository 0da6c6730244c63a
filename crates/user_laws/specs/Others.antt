-- What one user leaves to all others.
use Rattle.std.specs.Prelude.{◌≡◌, ℕ, not, bytes_eq, List, ◌++◌, filter, All}
use Rattle.job_table.specs.declared.record.JobRecord.{JobRecord}
use Rattle.ctl_state.specs.State.{State}

-- those of the jobs that aren't the user's
abbrev pub others_of : List ℕ → List JobRecord → List JobRecord
others_of user jobs = filter (λ (job : JobRecord). not (bytes_eq job.user user)) jobs

-- the jobs of others, and all that isn't a user's, are as they were
pub record LeavesOthers (user : List ℕ) (s after : State) : Type 0 where
  pub jobs : others_of user after.jobs ≡ others_of user s.jobs
  pub nodes : after.nodes ≡ s.nodes
  pub partitions : after.partitions ≡ s.partitions
  pub reservations : after.reservations ≡ s.reservations
  pub settings : after.settings ≡ s.settings
  pub assocs : after.assocs ≡ s.assocs
  pub qos : after.qos ≡ s.qos

-- behind the jobs that there were come jobs of the user, if any
pub record AddsOwn (user : List ℕ) (jobs after : List JobRecord) : Type 0 where
  pub new : List JobRecord
  pub behind : after ≡ jobs ++ new
  pub own : All (λ (job : JobRecord). job.user ≡ user) new
