-- What a query finds once for all rows that it shows. Of the proof alone: no public call speaks of it.
use Rattle.std.specs.Prelude.{◌≡◌, ℕ, ◌^◌, ◌-◌, ◌<◌, ◌≤◌, Bool, true, false, min, nat_eq, is_some, All, IfSome, List, length, sum_by, slice_index, slice_get}
use Rattle.std.specs.HashMap.{get}
use Rattle.std.specs.List.{AllWithin}
use Rattle.reply_data.specs.declared.view.NodeGroup.{NodeGroup}
use Rattle.job_table.specs.Behind.{ShowsBehind}
use Rattle.job_table.specs.declared.record.JobRecord.{JobRecord}
use Rattle.job_table.specs.declared.record.Part.{Part}
use Rattle.job_table.specs.declared.targets.Places.{Places}
use Rattle.job_table.specs.JobStates.{is_pending}
use Rattle.run_limits.specs.Tallies.{Shows}
use Rattle.ctl_state.specs.Counted.{holding}
use Rattle.ctl_state.specs.State.{State}
use Rattle.ctl_waiting.specs.Measured.{IsMeasured}
use Rattle.ctl_show.specs.declared.outlook.Outlook.{Outlook}
use Rattle.ctl_show.specs.declared.outlook.Shared.{Shared}
use Rattle.ctl_show.specs.declared.outlook.Waiting.{Waiting}
use Rattle.ctl_show.specs.Standing.{group_at}
use Rattle.ctl_show.specs.Showing.{highest, planned_start}

-- where a count stands still
abbrev pub last_count : ℕ
last_count = 2 ^ 64 - 1

-- each count is what the parts hold by this measure of the node at its place, as far as it counts
pub record CountsParts (held : ℕ → Part → ℕ) (parts : List Part) (counts : List ℕ) : Type 0 where
  pub each : (node : ℕ) → node < length counts → slice_index counts node ≡ min (sum_by (held node) parts) last_count

-- each node is in the group of its place
pub record GroupsNodes (s : State) (groups : List NodeGroup) : Type 0 where
  pub each : (place : ℕ) → slice_get groups place ≡ group_at s place

-- each job that passes the test lies at one of the places
pub record LieWithin (test : JobRecord → Bool) (jobs : List JobRecord) (places : Places) : Type 0 where
  pub within : (places.first ≤ length jobs) × (places.end ≤ length jobs)
  pub before : AllWithin (λ job. test job ≡ false) jobs 0 places.first
  pub behind : AllWithin (λ job. test job ≡ false) jobs places.end (length jobs)

-- the job that is highest in rank at a moment, and the second that the plan gives each job
pub record IsShared (s : State) (now : ℕ) (shared : Shared) : Type 0 where
  pub highest : shared.highest ≡ highest s now
  pub starts : (id : ℕ) → get nat_eq shared.starts id ≡ planned_start s.plan id

-- What the jobs count that hold processors, which have others of their user and name before them, and what many share,
-- where that is found.
pub record ShowsWaiting (s : State) (now : ℕ) (waiting : Waiting) : Type 0 where
  pub tally : Shows s.assocs waiting.tally (holding s.jobs)
  pub behind : All (ShowsBehind waiting.behind s.jobs) s.jobs
  pub shared : IfSome waiting.shared (IsShared s now)

-- what priorities rest on at a moment, and what pending jobs wait for then, where that is found
pub record IsOutlook (s : State) (now : ℕ) (outlook : Outlook) : Type 0 where
  pub measured : IsMeasured s outlook.factors
  pub moment : outlook.factors.moment ≡ now
  pub waiting : IfSome outlook.waiting (ShowsWaiting s now)

-- what the job waits for is found, if it is pending
abbrev pub HasFound : Outlook → JobRecord → Type 0
HasFound outlook job = is_pending job.state ≡ true → is_some outlook.waiting ≡ true
