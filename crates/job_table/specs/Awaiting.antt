-- Jobs for which others wait.
use Rattle.std.specs.Prelude.{◌≡◌, ℕ, Bool, true, ◌&&◌, ◌||◌, not, nat_eq, unwrap_or, false, List, filter, All, Option, None, option_map}
use Rattle.std.specs.List.{list_any}
use Rattle.std.specs.HashSet.{contains}
use Rattle.plain_data.specs.declared.dependency.DepKind.{DepKind}
use Rattle.plain_data.specs.declared.dependency.DepKind.TheVariants as kinds
use Rattle.plain_data.specs.declared.dependency.DepId.{DepId}
use Rattle.plain_data.specs.declared.dependency.DepItem.{DepItem}
use Rattle.plain_data.specs.declared.dependency.DepSpec.{DepSpec}
use Rattle.job_table.specs.declared.record.JobRecord.{JobRecord}
use Rattle.job_table.specs.declared.change.Change.{Change}
use Rattle.job_table.specs.declared.awaited.Awaited.{Awaited}
use Rattle.job_table.specs.Changes.{changed}
use Rattle.job_table.specs.JobStates.{is_pending}
use Rattle.job_table.specs.Table.{is_old}
use Rattle.job_table.specs.Targets.{is_named_by}

-- the index of the task that an item of this kind names, if of one: of the corresponding tasks any may be meant
abbrev pub index_named : DepKind → DepId → Option ℕ
index_named kinds.AfterCorr id = None
index_named kind id = id.index

-- a number of an item of this kind names the job
abbrev pub names_by : DepKind → JobRecord → DepId → Bool
names_by kind job id = is_named_by id.id (index_named kind id) job

-- an item of a dependency names the job, and so does the dependency
abbrev pub names_in : JobRecord → DepItem → Bool
names_in job item = list_any (names_by item.kind job) item.ids

abbrev pub names_job : DepSpec → JobRecord → Bool
names_job spec job = list_any (names_in job) spec.items

-- a job waits for a start, and names the other in its dependency
abbrev pub awaits : JobRecord → JobRecord → Bool
awaits waiting job =
    is_pending waiting.state
    && unwrap_or (option_map (λ (spec : DepSpec). names_job spec job) waiting.terms.dependency) false

-- one of the jobs waits for it
unfoldable pub is_awaited : List JobRecord → JobRecord → Bool
is_awaited jobs job = list_any (λ (waiting : JobRecord). awaits waiting job) jobs

-- the numbers kept have the job with this number, a task of the array with that one
unfoldable pub has_awaited : Awaited → ℕ → Option ℕ → Bool
has_awaited awaited id array =
    contains nat_eq awaited.jobs id
    || (contains nat_eq awaited.numbers id
    || unwrap_or (option_map (contains nat_eq awaited.numbers) array) false)

-- these are the jobs for which others wait
pub record ShowsAwaited (awaited : Awaited) (jobs : List JobRecord) : Type 0 where
  pub each : All (λ (job : JobRecord). has_awaited awaited job.id job.array ≡ is_awaited jobs job) jobs

-- those of the jobs are added that a test finds
pub record AddsAwaited (test : JobRecord → Bool) (jobs : List JobRecord) (old new : Awaited) : Type 0 where
  pub each : All
      (λ (job : JobRecord). has_awaited new job.id job.array ≡ (has_awaited old job.id job.array || test job)) jobs

-- the record of a job goes that ended so long ago, where no job is kept to be waiting for it
abbrev pub has_gone : ℕ → ℕ → Awaited → JobRecord → Bool
has_gone age now awaited job = is_old age now job && not (has_awaited awaited job.id job.array)

-- Whether others wait for a job rests on its number, its array and its index alone, so that no change of it matters.
abbrev pub AwaitedByNumber : Type 0
AwaitedByNumber = (jobs : List JobRecord) (one other : JobRecord)
    → one.id ≡ other.id → one.array ≡ other.array → one.index ≡ other.index
    → is_awaited jobs one ≡ is_awaited jobs other

abbrev pub AwaitedThroughChanges : Type 0
AwaitedThroughChanges = (jobs : List JobRecord) (change : Change) (job : JobRecord)
    → is_awaited jobs (changed change job) ≡ is_awaited jobs job

-- The same jobs are awaited where records go of jobs that don't wait for a start.
abbrev pub AwaitedWithoutOthers : Type 0
AwaitedWithoutOthers = (jobs : List JobRecord) (goes : JobRecord → Bool) (job : JobRecord)
    → ((one : JobRecord) → goes one ≡ true → is_pending one.state ≡ false)
    → is_awaited (filter (λ one. not (goes one)) jobs) job ≡ is_awaited jobs job
