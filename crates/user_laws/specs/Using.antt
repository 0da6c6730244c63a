-- What an association's jobs hold that run.
use Rattle.std.specs.Prelude.{ℕ, nat_eq, if◌then◌else◌, sum_by}
use Rattle.job_table.specs.declared.record.JobRecord.{JobRecord}
use Rattle.job_table.specs.JobStates.{is_running}
use Rattle.job_table.specs.Usage.{cpus_held}
use Rattle.ctl_state.specs.State.{State}

-- how many processors a job holds while it runs
abbrev pub cpus_running : JobRecord → ℕ
cpus_running job = if is_running job.state then cpus_held job else 0

-- how many the running jobs hold of the association at a place
unfoldable pub cpus_run_by : State → ℕ → ℕ
cpus_run_by s place = sum_by (λ (job : JobRecord). if nat_eq job.assoc place then cpus_running job else 0) s.jobs
