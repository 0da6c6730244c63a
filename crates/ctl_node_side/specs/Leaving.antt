-- Jobs that leave a node: what they hold there is held no more.
use Rattle.std.specs.Prelude.{ℕ, ◌<◌, ◌≤◌, if◌then◌else◌, List, All, find, Option, None}
use Rattle.node_state.specs.declared.record.Held.{Held}
use Rattle.job_table.specs.declared.record.Part.{Part}
use Rattle.job_table.specs.declared.record.JobRecord.{JobRecord}
use Rattle.job_table.specs.Changes.{is_on}
use Rattle.job_table.specs.JobStates.{is_completing}
use Rattle.ctl_state.specs.Holding.{OnNodesApart, parts_of, times_held}
use Rattle.ctl_state.specs.Index.{ShowsParts}

-- the part that the job drops when it leaves the node: only a completing job leaves one
abbrev pub part_dropped : ℕ → JobRecord → Option Part
part_dropped node job = if is_completing job.state then find (is_on node) job.parts else None

-- the parts are on nodes that differ, of so many that there are
pub record AreOnNodes (count : ℕ) (parts : List Part) : Type 0 where
  pub there : All (λ (part : Part). part.node < count) parts
  pub apart : OnNodesApart parts

-- the index shows what the jobs hold, and no processor stands in two of their parts
pub record ShowsJobs (held : List Held) (jobs : List JobRecord) : Type 0 where
  pub shown : ShowsParts held (parts_of jobs)
  pub once : (node cpu : ℕ) → times_held (parts_of jobs) node cpu ≤ 1
