-- Which records of jobs go, and which requests take a job out of Running.
use Rattle.std.specs.Prelude.{◌≡◌, ℕ, Bool, true, false}
use Rattle.request_data.specs.declared.request.NodeOrder.TheVariants as order
use Rattle.request_data.specs.declared.request.Request.{Request}
use Rattle.request_data.specs.declared.request.Request.TheVariants.{Cancel, Report, Requeue, Pass, UpdateNode}
use Rattle.job_table.specs.Awaiting.{is_awaited}
use Rattle.job_table.specs.declared.record.JobRecord.{JobRecord}
use Rattle.job_table.specs.JobStates.{is_running}
use Rattle.job_table.specs.Table.{is_old}
use Rattle.ctl_state.specs.State.{State}

-- The record of a job goes in a pass alone: one at a moment at which the job has ended so long ago, while no pending job
-- waits for it.
abbrev pub HasGone : State → ℕ → Request → JobRecord → Type 0
HasGone s moment Pass job =
    (is_old s.settings.min_job_age moment job ≡ true) × (is_awaited s.jobs job ≡ false)
HasGone s moment request job = ⊥

-- it is the same job, and was started as often
pub record IsSame (job other : JobRecord) : Type 0 where
  pub id : other.id ≡ job.id
  pub starts : other.starts ≡ job.starts

-- it is the same job by the same start, and runs
pub record RunsThere (job other : JobRecord) : Type 0 where
  pub same : IsSame job other
  pub runs : is_running other.state ≡ true

-- The requests that may take a job out of Running: passes, reports, cancels, requeues, and nodes that are set down.
abbrev pub may_end : Request → Bool
may_end Pass = true
may_end (Report report) = true
may_end (Cancel targets) = true
may_end (Requeue target) = true
may_end (UpdateNode nodes order.Down) = true
may_end request = false
