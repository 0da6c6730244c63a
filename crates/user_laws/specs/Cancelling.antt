-- Who is cancelled, and by what.
use Rattle.std.specs.Prelude.{◌≡◌, ◌⊎◌, ℕ, Bool, true, false, ◌&&◌, List}
use Rattle.request_data.specs.declared.request.Request.{Request}
use Rattle.request_data.specs.declared.request.Request.TheVariants.{Cancel}
use Rattle.request_data.specs.declared.state.Final.TheVariants.{Cancelled}
use Rattle.request_data.specs.declared.state.JobState.{JobState}
use Rattle.request_data.specs.declared.state.JobState.TheVariants.{Completing, Ended}
use Rattle.job_table.specs.declared.record.JobRecord.{JobRecord}
use Rattle.ctl_jobs.specs.declared.action.Action.TheVariants as act
use Rattle.ctl_jobs.specs.Changing.{are_meant, may_do}
use Rattle.ctl_state.specs.State.{State}
use Rattle.user_laws.specs.Staying.{IsSame}

-- it was cancelled, or is to be once its nodes have let it go
abbrev pub is_cancelled : JobState → Bool
is_cancelled (Completing Cancelled) = true
is_cancelled (Ended Cancelled) = true
is_cancelled state = false

-- the request is a cancel that means the job, and the user may do that to it
abbrev pub Cancels : State → List ℕ → Request → JobRecord → Type 0
Cancels s user (Cancel targets) job = (are_meant targets job && may_do s user act.Cancel job) ≡ true
Cancels s user request job = ⊥

-- it is the same job by the same start, which was cancelled before, or is by this request
pub record IsCancelledBy (s : State) (user : List ℕ) (request : Request) (after job : JobRecord) : Type 0 where
  pub same : IsSame after job
  pub cancelled : (is_cancelled job.state ≡ true) ⊎ Cancels s user request job
