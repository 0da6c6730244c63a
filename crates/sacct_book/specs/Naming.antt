-- Which jobs an entry may make hold more or fewer processors.
use Rattle.std.specs.Prelude.{◌≡◌, ℕ, Bool, ◌&&◌, not, if◌then◌else◌, List, [], ◌∷◌, map, filter, Option, Some, None}
use Rattle.request_data.specs.declared.report.Done.{Done}
use Rattle.request_data.specs.declared.request.NodeOrder.TheVariants.{Down}
use Rattle.request_data.specs.declared.request.Request.{Request}
use Rattle.request_data.specs.declared.request.Request.TheVariants.{Cancel, Report as Told, Requeue, Pass, UpdateNode}
use Rattle.request_data.specs.declared.report.Report.{Report}
use Rattle.request_data.specs.declared.target.Target.{Target}
use Rattle.request_data.specs.declared.target.Targets.TheVariants.{List as Listed, User}
use Rattle.job_table.specs.declared.record.JobRecord.{JobRecord}
use Rattle.job_table.specs.Targets.{is_named}
use Rattle.ctl_state.specs.State.{State}
use Rattle.ctl_jobs.specs.Changing.{are_naming}
use Rattle.ctl_node_side.specs.Answering.{is_restarted}
use Rattle.sacct_book.specs.declared.naming.Changed.{Changed}
use Rattle.sacct_book.specs.declared.naming.Changed.TheVariants.{Nothing, Named, Any}
use Rattle.sacct_book.specs.Running.{cpus_run_by}

-- the target that names the job of a start
abbrev pub target_of : Done → Target
target_of done = record { id = done.start.id; index = None }

-- those of the starts that a report tells to be over; the report of a restarted daemon may change any
abbrev pub reported_by : State → Report → Option (List Target)
reported_by s report = if is_restarted s report then None else Some (map target_of report.done)

-- Targets that name each running job of which a request may change what it holds, where they are told: a pass, a cancel
-- of all jobs of a user, nodes that are set down and the report of a restarted daemon may change any.
abbrev pub changed_by : State → Request → Option (List Target)
changed_by s Pass = None
changed_by s (Cancel (Listed targets)) = Some targets
changed_by s (Cancel (User owner)) = None
changed_by s (Requeue target) = Some (target ∷ [])
changed_by s (UpdateNode nodes Down) = None
changed_by s (Told report) = reported_by s report
changed_by s request = Some []

-- what is told of these targets
abbrev pub Tells : Changed → Option (List Target) → Type 0
Tells Nothing targets = targets ≡ Some []
Tells (Named named) targets = targets ≡ Some named.items
Tells Any targets = Unit {0}

-- the target names the job, and none of those before it does
abbrev pub is_named_first : List Target → Target → JobRecord → Bool
is_named_first before target job = is_named target job && not (are_naming before job)

-- how many processors the running jobs of the association at a place hold that the targets name
abbrev pub run_by_named : List Target → List JobRecord → ℕ → ℕ
run_by_named targets jobs place = cpus_run_by (filter (are_naming targets) jobs) place

-- how many those hold that no target names
abbrev pub run_by_others : List Target → List JobRecord → ℕ → ℕ
run_by_others targets jobs place = cpus_run_by (filter (λ job. not (are_naming targets job)) jobs) place
