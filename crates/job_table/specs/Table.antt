-- The table: the records in the order of their numbers.
use Rattle.std.specs.Prelude.{◌≡◌, ℕ, ◌+◌, ◌<◌, Bool, true, false, ◌&&◌, not, nat_eq, nat_le, if◌then◌else◌, unwrap_or, List, map, find, AllPairs, Option}
use Rattle.std.specs.Map.{values_of}
use Rattle.job_table.specs.declared.record.JobRecord.{JobRecord}
use Rattle.job_table.specs.declared.change.Change.{Change}
use Rattle.job_table.specs.Changes.{changed}
use Rattle.job_table.specs.JobStates.{is_ended}
use Rattle.job_table.specs.Targets.{HaveRisingIndices}
use Rattle.job_table.specs.Behind.{NoneWaitsBehind}
use Rattle.job_table.specs.Blocks.{AreMarked}
use Rattle.job_table.specs.declared.blocks.Block.{Block}
use Rattle.job_table.specs.Tallies.{IsTallied}
use Rattle.job_table.specs.declared.unended.Tallies.{Tallies}

-- what contracts see of the table
pub record JobsView : Type 0 where
  pub records : List JobRecord
  -- what the starts of each association's jobs have used that left Running, in the order of the associations
  pub usage : List ℕ

-- the numbers rise
abbrev pub HaveRisingIds : List JobRecord → Type 0
HaveRisingIds jobs = AllPairs (λ (one other : JobRecord). one.id < other.id) jobs

-- where the table keeps a record: under its number
abbrev pub entry_of : JobRecord → ℕ × JobRecord
entry_of job = (job.id, job)

-- entries that are a table: each record is under its number, and the numbers rise
pub record IsTable (entries : List (ℕ × JobRecord)) : Type 0 where
  pub under_ids : entries ≡ map entry_of (values_of entries)
  pub rising : HaveRisingIds (values_of entries)

-- Entries that are a table, whether it is known that indices rise in it, what may lie on which node or hold anything, how
-- many jobs haven't ended, and whether one may wait for others of its user and name.
pub record IsJobTable (entries : List (ℕ × JobRecord)) (by_index : Bool) (blocks : List Block) (tallies : Tallies) (may_wait_behind : Bool) : Type 0 where
  pub table : IsTable entries
  pub indices : by_index ≡ true → HaveRisingIndices (values_of entries)
  pub marked : AreMarked blocks (values_of entries)
  pub tallied : IsTallied tallies (values_of entries)
  pub behind : may_wait_behind ≡ false → NoneWaitsBehind (values_of entries)

abbrev pub has_id : ℕ → JobRecord → Bool
has_id id job = nat_eq job.id id

-- the job with this number
abbrev pub job_with : ℕ → List JobRecord → Option JobRecord
job_with id jobs = find (has_id id) jobs

-- a record once the job with this number has changed
abbrev pub changed_if : ℕ → Change → JobRecord → JobRecord
changed_if id change job = if has_id id job then changed change job else job

-- a record, or this one in its place where it has its number
abbrev pub put_back_if : JobRecord → JobRecord → JobRecord
put_back_if one job = if has_id one.id job then one else job

-- a job ended so long ago that its record goes; an age of 0 keeps all
abbrev pub is_old : ℕ → ℕ → JobRecord → Bool
is_old age now job = is_ended job.state && (not (nat_eq age 0) && nat_le (unwrap_or job.ended 0 + age) now)
