-- Which jobs a target names.
use Rattle.std.specs.Prelude.{◌≡◌, ℕ, ◌<◌, ◌≤◌, Bool, true, false, ◌&&◌, ◌||◌, nat_eq, nat_lt, unwrap_or, List, All, AllPairs, IfSome, Option, Some, None}
use Rattle.request_data.specs.declared.target.Target.{Target}
use Rattle.job_table.specs.declared.record.JobRecord.{JobRecord}

abbrev pub is_number : ℕ → Option ℕ → Bool
is_number number None = false
is_number number (Some other) = nat_eq other number

-- the job is a task of the array with this number
abbrev pub is_task_of : ℕ → JobRecord → Bool
is_task_of array job = is_number array job.array

-- a number alone names the job that has it, and all tasks of the array that has it; with an index it names one task
abbrev pub is_named_by : ℕ → Option ℕ → JobRecord → Bool
is_named_by id None job = nat_eq job.id id || is_task_of id job
is_named_by id (Some index) job = is_task_of id job && is_number index job.index

abbrev pub is_named : Target → JobRecord → Bool
is_named target job = is_named_by target.id target.index job

-- An array's number is at most those of its tasks, and between the first and the last of these no other job stands.
pub record AreTogether (jobs : List JobRecord) : Type 0 where
  pub after : All (λ (job : JobRecord). IfSome job.array (λ array. array ≤ job.id)) jobs
  pub together : AllPairs
      (λ (one other : JobRecord). IfSome other.array (λ array. array ≤ one.id → one.array ≡ Some array)) jobs

-- a task's index; whoever has none counts as the first
abbrev pub index_of : JobRecord → ℕ
index_of job = unwrap_or job.index 0

-- what a job is found by
abbrev pub found_by : JobRecord → ℕ × Option ℕ × Option ℕ
found_by job = (job.id, job.array, job.index)

-- The indices of an array's tasks rise with their numbers: each is above those of all jobs before it from the array's
-- number on.
abbrev pub HaveRisingIndices : List JobRecord → Type 0
HaveRisingIndices jobs = AllPairs
    (λ (one other : JobRecord). IfSome other.array (λ array. array ≤ one.id → index_of one < index_of other)) jobs

-- a task behind this job, of an array that begins behind it or the next of the same array
abbrev pub follows_in : Option ℕ → JobRecord → JobRecord → Bool
follows_in None last job = true
follows_in (Some array) last job =
    nat_lt last.id array || (is_task_of array last && nat_lt (index_of last) (index_of job))

abbrev pub follows : JobRecord → JobRecord → Bool
follows last job = follows_in job.array last job

-- the job lies before where the task with this index of the array with this number does
abbrev pub lies_before : ℕ → ℕ → JobRecord → Bool
lies_before array index job = nat_lt job.id array || (is_task_of array job && nat_lt (index_of job) index)
