-- How many processors running jobs hold.
use Rattle.std.specs.Prelude.{◌≡◌, ℕ, ◌+◌, ◌-◌, ◌^◌, ◌<◌, min, nat_eq, if◌then◌else◌, List, length, sum_by, slice_index}
use Rattle.job_table.specs.declared.record.JobRecord.{JobRecord}
use Rattle.job_table.specs.JobStates.{is_running}
use Rattle.job_table.specs.Usage.{cpus_held}
use Rattle.sacct_book.specs.declared.running.Way.{Way}
use Rattle.sacct_book.specs.declared.running.Way.TheVariants.{More, Fewer}

-- how many processors a job holds while it runs: of one that is completing none counts any more
unfoldable pub cpus_running : JobRecord → ℕ
cpus_running job = if is_running job.state then cpus_held job else 0

-- how many the running jobs hold of the association at a place
unfoldable pub cpus_run_by : List JobRecord → ℕ → ℕ
cpus_run_by jobs place =
    sum_by (λ (job : JobRecord). if nat_eq job.assoc place then cpus_running job else 0) jobs

-- a count of so many more, where it stands still at its type's end, or of so many fewer
abbrev pub counted : Way → ℕ → ℕ → ℕ
counted More count cpus = min (count + cpus) (2 ^ 64 - 1)
counted Fewer count cpus = count - cpus

-- the counts tell what the running jobs of each association hold
abbrev pub AreCounted : List JobRecord → List ℕ → Type 0
AreCounted jobs counts = (place : ℕ) → place < length counts → slice_index counts place ≡ cpus_run_by jobs place
