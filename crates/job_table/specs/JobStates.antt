-- The states of a job.
use Rattle.std.specs.Prelude.{Bool, true, false}
use Rattle.request_data.specs.declared.state.JobState.{JobState}
use Rattle.request_data.specs.declared.state.JobState.TheVariants.{Pending, Running, Completing, Ended}
use Rattle.request_data.specs.declared.state.Final.{Final}
use Rattle.request_data.specs.declared.state.Final.TheVariants.{Requeue}

abbrev pub is_pending : JobState → Bool
is_pending Pending = true
is_pending Running = false
is_pending (Completing final) = false
is_pending (Ended final) = false

abbrev pub is_running : JobState → Bool
is_running Pending = false
is_running Running = true
is_running (Completing final) = false
is_running (Ended final) = false

abbrev pub is_completing : JobState → Bool
is_completing Pending = false
is_completing Running = false
is_completing (Completing final) = true
is_completing (Ended final) = false

abbrev pub is_ended : JobState → Bool
is_ended Pending = false
is_ended Running = false
is_ended (Completing final) = false
is_ended (Ended final) = true

-- running and completing jobs hold processors
abbrev pub is_holding : JobState → Bool
is_holding Pending = false
is_holding Running = true
is_holding (Completing final) = true
is_holding (Ended final) = false

-- what a job becomes that holds nothing any more: one that is to start again is pending
abbrev pub left : Final → JobState
left Requeue = Pending
left final = Ended final
