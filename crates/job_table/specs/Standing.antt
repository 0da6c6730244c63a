-- Whether what a job waits for has come.
use Rattle.std.specs.Prelude.{ℕ, Bool, true, false, ◌&&◌, ◌||◌, not, nat_eq, nat_lt, if◌then◌else◌, List, map, filter, bytes_eq, Option, Some, None}
use Rattle.std.specs.List.{list_all, list_any}
use Rattle.plain_data.specs.declared.dependency.DepKind.{DepKind}
use Rattle.plain_data.specs.declared.dependency.DepKind.TheVariants as kind
use Rattle.plain_data.specs.declared.dependency.DepId.{DepId}
use Rattle.plain_data.specs.declared.dependency.DepItem.{DepItem}
use Rattle.plain_data.specs.declared.dependency.DepSpec.{DepSpec}
use Rattle.request_data.specs.declared.state.Final.{Final}
use Rattle.request_data.specs.declared.state.Final.TheVariants.{Completed, Cancelled, Failed, Timeout, NodeFail, Requeue}
use Rattle.request_data.specs.declared.state.JobState.{JobState}
use Rattle.request_data.specs.declared.state.JobState.TheVariants.{Pending, Running, Completing, Ended}
use Rattle.job_table.specs.declared.record.JobRecord.{JobRecord}
use Rattle.job_table.specs.JobStates.{is_ended}
use Rattle.job_table.specs.Targets.{is_named_by}
use Rattle.job_table.specs.declared.standing.Standing.{Standing}
use Rattle.job_table.specs.declared.standing.Standing.TheVariants.{Satisfied, Waiting, Never}

abbrev pub is_satisfied : Standing → Bool
is_satisfied Satisfied = true
is_satisfied Waiting = false
is_satisfied Never = false

abbrev pub is_never : Standing → Bool
is_never Satisfied = false
is_never Waiting = false
is_never Never = true

-- where all are needed: it can't come where one of them can't, and has come where all have
abbrev pub all_of : List Standing → Standing
all_of parts = if list_any is_never parts then Never else (if list_all is_satisfied parts then Satisfied else Waiting)

-- where one is enough: it has come where one has, and can't come where none of them can
abbrev pub one_of : List Standing → Standing
one_of parts = if list_any is_satisfied parts then Satisfied else (if list_all is_never parts then Never else Waiting)

-- it waits until this is so
abbrev pub once : Bool → Standing
once true = Satisfied
once false = Waiting

-- the job was started, or has ended without a start
abbrev pub has_begun : JobRecord → Bool
has_begun job = not (nat_eq job.starts 0) || is_ended job.state

-- a job that ended with exit code 0, and one that ended otherwise
abbrev pub by_success : Final → Standing
by_success Completed = Satisfied
by_success Cancelled = Never
by_success Failed = Never
by_success Timeout = Never
by_success NodeFail = Never
by_success Requeue = Never

abbrev pub by_failure : Final → Standing
by_failure Completed = Never
by_failure Cancelled = Satisfied
by_failure Failed = Satisfied
by_failure Timeout = Satisfied
by_failure NodeFail = Satisfied
by_failure Requeue = Satisfied

-- a job is judged by its end once it has come to it
abbrev pub at_end : (Final → Standing) → JobState → Standing
at_end judge Pending = Waiting
at_end judge Running = Waiting
at_end judge (Completing final) = Waiting
at_end judge (Ended final) = judge final

-- what an item of this kind waits for of one job
abbrev pub standing_of : DepKind → JobRecord → Standing
standing_of kind.After job = once (has_begun job)
standing_of kind.AfterAny job = once (is_ended job.state)
standing_of kind.AfterOk job = at_end by_success job.state
standing_of kind.AfterNotOk job = at_end by_failure job.state
standing_of kind.AfterCorr job = at_end by_success job.state
standing_of kind.Singleton job = Satisfied

-- which task of an array is meant: the job's own, or the one that is named, if one is
abbrev pub index_meant : DepKind → JobRecord → DepId → Option ℕ
index_meant kind.AfterCorr own id = own.index
index_meant kind own id = id.index

-- the jobs that a number of an item names to the job
abbrev pub jobs_named : List JobRecord → JobRecord → DepKind → DepId → List JobRecord
jobs_named jobs own kind id = filter (is_named_by id.id (index_meant kind own id)) jobs

-- all of these jobs are needed
abbrev pub standing_by_id : List JobRecord → JobRecord → DepKind → DepId → Standing
standing_by_id jobs own kind id = all_of (map (standing_of kind) (jobs_named jobs own kind id))

-- another job of the same user and name, with a lower number, that hasn't ended
abbrev pub is_before : JobRecord → JobRecord → Bool
is_before own job =
    nat_lt job.id own.id
    && (not (is_ended job.state) && (bytes_eq job.user own.user && bytes_eq job.terms.name own.terms.name))

-- an item of this kind: all that these numbers name, or no earlier job of this user and name
abbrev pub standing_in : List JobRecord → JobRecord → DepKind → List DepId → Standing
standing_in jobs own kind.Singleton ids = once (not (list_any (is_before own) jobs))
standing_in jobs own kind ids = all_of (map (standing_by_id jobs own kind) ids)

abbrev pub standing_by : List JobRecord → JobRecord → DepItem → Standing
standing_by jobs own item = standing_in jobs own item.kind item.ids

-- all items, or one of them
abbrev pub standing_for : List JobRecord → JobRecord → DepSpec → Standing
standing_for jobs own spec =
    if spec.any then one_of (map (standing_by jobs own) spec.items) else all_of (map (standing_by jobs own) spec.items)

abbrev pub standing_if : List JobRecord → JobRecord → Option DepSpec → Standing
standing_if jobs own None = Satisfied
standing_if jobs own (Some spec) = standing_for jobs own spec

-- what the job waits for, if it waits for something and wasn't started before
unfoldable pub standing : List JobRecord → JobRecord → Standing
standing jobs own = if nat_eq own.starts 0 then standing_if jobs own own.terms.dependency else Satisfied
