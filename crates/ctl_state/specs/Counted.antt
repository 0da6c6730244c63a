-- What jobs count towards limits.
use Rattle.std.specs.Prelude.{ℕ, ◌*◌, List, map, filter}
use Rattle.job_table.specs.declared.record.JobRecord.{JobRecord}
use Rattle.job_table.specs.JobStates.{is_holding}
use Rattle.run_limits.specs.declared.counted.Counted.{Counted}
use Rattle.run_limits.specs.Limits.{Beside}
use Rattle.ctl_state.specs.State.{State}

-- how many processors limits count for a job: those of its tasks, whatever it holds
abbrev pub cpus_counted : JobRecord → ℕ
cpus_counted job = job.terms.tasks * job.terms.cpus_per_task

-- what a job counts as
abbrev pub counted_of : JobRecord → Counted
counted_of job = record { array = job.array; assoc = job.assoc; qos = job.qos; cpus = cpus_counted job }

-- those of the jobs that hold processors, as limits count them
unfoldable pub holding : List JobRecord → List Counted
holding jobs = map counted_of (filter (λ (job : JobRecord). is_holding job.state) jobs)

-- what one more job is counted beside, where these are the jobs
abbrev pub beside : State → List JobRecord → Beside
beside s jobs = record { assocs = s.assocs; qos = s.qos; holding = holding jobs }
