-- What may happen to a job.
use Rattle.std.specs.Prelude.{ℕ, ◌+◌, ◌-◌, ◌^◌, min, Bool, not, nat_eq, if◌then◌else◌, List, [], ◌∷◌, filter, Option, Some, None}
use Rattle.request_data.specs.declared.state.JobState.{JobState}
use Rattle.request_data.specs.declared.state.JobState.TheVariants.{Pending, Running, Completing, Ended}
use Rattle.request_data.specs.declared.state.Final.{Final}
use Rattle.request_data.specs.declared.state.Final.TheVariants.{Cancelled, Requeue}
use Rattle.job_table.specs.declared.record.Part.{Part}
use Rattle.job_table.specs.declared.record.JobRecord.{JobRecord}
use Rattle.job_table.specs.declared.change.Change.{Change}
use Rattle.job_table.specs.declared.change.Change.TheVariants.{Start, Leave, CancelPending, CancelRequeue, DropPart, SetHold, SetLimit, SetNice}
use Rattle.job_table.specs.JobStates.{is_pending, is_running, left}

-- the part is on the node
abbrev pub is_on : ℕ → Part → Bool
is_on node part = nat_eq part.node node

-- the parts that aren't on the node
abbrev pub parts_off : ℕ → List Part → List Part
parts_off node parts = filter (λ part. not (is_on node part)) parts

-- when a job ended that holds nothing any more: now, but one that waits again keeps the moment at which it left Running
abbrev pub end_of : ℕ → Final → Option ℕ → Option ℕ
end_of now Requeue ended = ended
end_of now final ended = Some now

-- a completing job with these parts left: without any it has ended, or waits again
abbrev pub with_left : ℕ → Final → List Part → JobRecord → JobRecord
with_left now final [] job = record job { parts = []; state = left final; ended = end_of now final job.ended }
with_left now final (part ∷ later) job = record job { parts = part ∷ later }

-- the job once it has left a node: only a completing job leaves one
abbrev pub off_node : ℕ → ℕ → JobRecord → JobState → JobRecord
off_node now node job Pending = job
off_node now node job Running = job
off_node now node job (Completing final) = with_left now final (parts_off node job.parts) job
off_node now node job (Ended final) = job

-- a completing job that was to start again is cancelled
abbrev pub not_again : JobRecord → JobState → JobRecord
not_again job (Completing Requeue) = record job { state = Completing Cancelled }
not_again job state = job

-- The job after a change: a start gives it these parts, a running one leaves Running, a pending one is cancelled, and a
-- completing one leaves a node.
abbrev pub changed : Change → JobRecord → JobRecord
changed (Start now parts nodes) job = record job {
  state = Running;
  starts = min (job.starts + 1) (2 ^ 32 - 1);
  parts = parts;
  started = Some now;
  ended = None;
  exit = None;
  last_nodes = nodes;
}
changed (Leave final now exit) job =
    if is_running job.state then record job { state = Completing final; ended = Some now; exit = exit } else job
changed (CancelPending now) job =
    if is_pending job.state then record job { state = Ended Cancelled; ended = Some now } else job
changed CancelRequeue job = not_again job job.state
changed (DropPart node now) job = off_node now node job job.state
changed (SetHold by) job = record job { held_by = by }
changed (SetLimit limit) job = record job { limit = limit }
changed (SetNice nice) job = record job { nice = nice }
