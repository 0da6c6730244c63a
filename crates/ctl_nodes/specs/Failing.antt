-- Nodes that are lost, which are told by their places: what becomes of the jobs that hold something of them.
use Rattle.std.specs.Prelude.{◌≡◌, ℕ, ◌<◌, ◌≤◌, Bool, false, not, if◌then◌else◌, List, map, filter, find, All, Option, None, option_map}
use Rattle.std.specs.List.{list_any}
use Rattle.request_data.specs.declared.state.Final.{Final}
use Rattle.request_data.specs.declared.state.Final.TheVariants.{NodeFail, Requeue}
use Rattle.request_data.specs.declared.state.JobState.{JobState}
use Rattle.request_data.specs.declared.state.JobState.TheVariants.{Pending, Running, Completing, Ended}
use Rattle.node_state.specs.declared.record.Held.{Held}
use Rattle.job_table.specs.declared.record.Part.{Part}
use Rattle.job_table.specs.declared.record.JobRecord.{JobRecord}
use Rattle.job_table.specs.declared.change.Change.TheVariants.{Leave}
use Rattle.job_table.specs.Changes.{changed, with_left}
use Rattle.job_table.specs.JobStates.{is_completing, is_holding}
use Rattle.ctl_state.specs.Events.{become}
use Rattle.ctl_state.specs.Holding.{OnNodesApart, has_members, parts_of, times_held}
use Rattle.ctl_state.specs.Index.{ShowsParts}
use Rattle.ctl_state.specs.State.{State}

-- a job that fails with its node starts again where it may be requeued
abbrev pub failing : JobRecord → Final
failing job = if job.terms.requeue then Requeue else NodeFail

-- the job once it has failed, if it ran: its script ended with no code
abbrev pub failed : ℕ → JobRecord → JobRecord
failed now job = changed (Leave (failing job) now None) job

-- the parts that are on lost nodes, and the others
abbrev pub parts_lost : (ℕ → Bool) → List Part → List Part
parts_lost lost parts = filter (λ (part : Part). lost part.node) parts

abbrev pub parts_kept : (ℕ → Bool) → List Part → List Part
parts_kept lost parts = filter (λ (part : Part). not (lost part.node)) parts

-- the job holds something of a lost node
abbrev pub loses : (ℕ → Bool) → JobRecord → Bool
loses lost job = list_any (λ (part : Part). lost part.node) job.parts

-- the job in this state, off the lost nodes: a running one has failed, and a completing one ends as it was to end
abbrev pub off_lost : ℕ → (ℕ → Bool) → JobRecord → JobState → JobRecord
off_lost now lost job Pending = job
off_lost now lost job Running = with_left now (failing job) (parts_kept lost job.parts) (failed now job)
off_lost now lost job (Completing final) = with_left now final (parts_kept lost job.parts) job
off_lost now lost job (Ended final) = job

-- the job once these nodes are lost, which changes only jobs that hold something of them
abbrev pub after_loss : ℕ → (ℕ → Bool) → JobRecord → JobRecord
after_loss now lost job = if loses lost job then off_lost now lost job job.state else job

-- the state once these nodes are lost; whoever leaves Running is charged to his association
abbrev pub lost_after : State → ℕ → (ℕ → Bool) → State
lost_after s now lost = become now (map (after_loss now lost) s.jobs) s

-- the first lost node of the parts; it is the first that a completing job leaves
abbrev pub first_lost : (ℕ → Bool) → List Part → Option ℕ
first_lost lost parts = option_map (λ (part : Part). part.node) (find (λ (part : Part). lost part.node) parts)

abbrev pub node_to_leave : (ℕ → Bool) → JobRecord → Option ℕ
node_to_leave lost job = if is_completing job.state then first_lost lost job.parts else None

-- the job's parts are on nodes that differ, of so many that there are, and it has some exactly where it holds something
pub record HoldsParts (count : ℕ) (job : JobRecord) : Type 0 where
  pub there : All (λ (part : Part). part.node < count) job.parts
  pub apart : OnNodesApart job.parts
  pub some : has_members job.parts ≡ is_holding job.state

-- the index shows what the jobs hold, and no processor stands in two of their parts
pub record ShowsJobs (held : List Held) (jobs : List JobRecord) : Type 0 where
  pub shown : ShowsParts held (parts_of jobs)
  pub once : (node cpu : ℕ) → times_held (parts_of jobs) node cpu ≤ 1
