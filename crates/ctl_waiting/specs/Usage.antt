-- What associations have used.
use Rattle.std.specs.Prelude.{ℕ, ◌+◌, min, nat_eq, if◌then◌else◌, unwrap_or, List, sum_by, slice_get, option_map}
use Rattle.job_table.specs.declared.record.JobRecord.{JobRecord}
use Rattle.job_table.specs.JobStates.{is_running}
use Rattle.job_table.specs.Usage.{greatest_usage, used_by}
use Rattle.ctl_state.specs.State.{State}

-- what a job has used since its start, while it runs
unfoldable pub used_running : ℕ → JobRecord → ℕ
used_running now job = if is_running job.state then used_by now job else 0

-- what those of the jobs have used that run and are of the association at a place
abbrev pub running_usage : ℕ → List JobRecord → ℕ → ℕ
running_usage now jobs place =
    sum_by (λ (job : JobRecord). if nat_eq job.assoc place then used_running now job else 0) jobs

-- The usage of the association at a place, in seconds of one processor: of its jobs that ran, those whose records are
-- gone too, and of those that run. It stops at the greatest usage, and it is nothing where no total is kept.
unfoldable pub usage_at : State → ℕ → ℕ → ℕ
usage_at s now place =
    unwrap_or
    (option_map (λ total. min (total + running_usage now s.jobs place) greatest_usage) (slice_get s.usage place))
    0
