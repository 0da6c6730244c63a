-- How a start of a job ends: it leaves Running once, and then it is settled how.
use Rattle.std.specs.Prelude.{◌≡◌, ◌⊎◌, IfSome, All, Option, Some, None}
use Rattle.request_data.specs.declared.state.Final.{Final}
use Rattle.request_data.specs.declared.state.Final.TheVariants.{Cancelled, Requeue}
use Rattle.request_data.specs.declared.state.JobState.{JobState}
use Rattle.request_data.specs.declared.state.JobState.TheVariants.{Pending, Running, Completing, Ended}
use Rattle.job_table.specs.declared.record.JobRecord.{JobRecord}
use Rattle.ctl_state.specs.State.{State}

-- how the last start of a job in this state ends, once it has left Running: who waits starts again
abbrev pub final_of : JobState → Option Final
final_of Pending = Some Requeue
final_of Running = None
final_of (Completing final) = Some final
final_of (Ended final) = Some final

-- the end stays, but a cancel may come to one that was to start again
abbrev pub IsSettled : Final → Option Final → Type 0
IsSettled final after = (after ≡ Some final) ⊎ ((final ≡ Requeue) × (after ≡ Some Cancelled))

abbrev pub StaysSettled : JobState → JobState → Type 0
StaysSettled state after = IfSome (final_of state) (λ final. IsSettled final (final_of after))

-- Each job of a state that is there in a later one with the same last start: how that start ends is settled as it was.
abbrev pub EndOnce : State → State → Type 0
EndOnce s s' = All (λ (job : JobRecord). All (λ (after : JobRecord). after.id ≡ job.id → after.starts ≡ job.starts
    → StaysSettled job.state after.state) s'.jobs) s.jobs
