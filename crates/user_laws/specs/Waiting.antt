-- What a job waited for that names others in its dependency.
use Rattle.std.specs.Prelude.{◌≡◌, true, false, List, All, Some}
use Rattle.plain_data.specs.declared.dependency.DepKind.TheVariants.{AfterOk}
use Rattle.plain_data.specs.declared.dependency.DepId.{DepId}
use Rattle.plain_data.specs.declared.dependency.DepItem.{DepItem}
use Rattle.plain_data.specs.declared.dependency.DepSpec.{DepSpec}
use Rattle.request_data.specs.declared.state.Final.TheVariants.{Completed}
use Rattle.request_data.specs.declared.state.JobState.TheVariants.{Ended}
use Rattle.job_table.specs.declared.record.JobRecord.{JobRecord}
use Rattle.job_table.specs.JobStates.{is_running}
use Rattle.job_table.specs.Targets.{is_named_by}

-- each of the jobs that the number names has completed, which is to end with exit code 0
abbrev pub AreCompleted : List JobRecord → DepId → Type 0
AreCompleted jobs id =
    All (λ (job : JobRecord). is_named_by id.id id.index job ≡ true → job.state ≡ Ended Completed) jobs

-- Whatever these items name to be waited for until it is ok has completed, as far as it is among the jobs.
abbrev pub ItemsCompleted : List JobRecord → List DepItem → Type 0
ItemsCompleted jobs items =
    All (λ (item : DepItem). item.kind ≡ AfterOk → All (AreCompleted jobs) item.ids) items

-- So it is for a job that needs all items of its dependency.
abbrev pub FoundOk : List JobRecord → JobRecord → Type 0
FoundOk jobs own =
    (spec : DepSpec) → own.terms.dependency ≡ Some spec → spec.any ≡ false → ItemsCompleted jobs spec.items

-- it is the same job, and runs
pub record IsRunningThere (job after : JobRecord) : Type 0 where
  pub id : after.id ≡ job.id
  pub runs : is_running after.state ≡ true
