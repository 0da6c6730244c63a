-- When jobs reach their limits, and when their records go.
use Rattle.std.specs.Prelude.{ℕ, Bool, ◌&&◌, nat_le, if◌then◌else◌, None}
use Rattle.request_data.specs.declared.state.Final.TheVariants.{Timeout}
use Rattle.job_table.specs.declared.record.JobRecord.{JobRecord}
use Rattle.job_table.specs.declared.change.Change.TheVariants.{Leave}
use Rattle.job_table.specs.Changes.{changed}
use Rattle.job_table.specs.JobStates.{is_running}
pub use Rattle.ctl_state.specs.Holds.{limit_end, deadline, hold_end, holds_of_job}

-- the job runs and has reached its limit
abbrev pub is_over : ℕ → JobRecord → Bool
is_over now job = is_running job.state && nat_le (deadline job) now

-- the job once its limit is seen to
abbrev pub timed_out : ℕ → JobRecord → JobRecord
timed_out now job = if is_over now job then changed (Leave Timeout now None) job else job
