-- What jobs use of the machine, and what of it counts to their associations.
use Rattle.std.specs.Prelude.{◌≡◌, ℕ, ◌+◌, ◌-◌, ◌*◌, min, Bool, true, false, ◌&&◌, not, nat_eq, if◌then◌else◌, unwrap_or, List, length, map, sum_by, Option, None, Some}
use Rattle.std.specs.List.{AllZip, enumerate_from, zip}
use Rattle.job_table.specs.declared.record.Part.{Part}
use Rattle.job_table.specs.declared.record.JobRecord.{JobRecord}
use Rattle.job_table.specs.declared.change.Change.{Change}
use Rattle.job_table.specs.declared.change.Change.TheVariants.{Start, Leave, CancelPending, CancelRequeue, DropPart, SetHold, SetLimit, SetNice}
use Rattle.job_table.specs.JobStates.{is_running}
use Rattle.job_table.specs.Changes.{changed}
use Rattle.job_table.specs.Table.{JobsView}
use Rattle.job_table.specs.Walks.{map_at}

-- the greatest usage that is told apart from more
abbrev pub greatest_usage : ℕ
greatest_usage = 4_294_967_295

-- how many processors the job holds
abbrev pub cpus_held : JobRecord → ℕ
cpus_held job = sum_by (λ (part : Part). length part.cpus) job.parts

-- what a job has used from its start to a moment, in seconds of one processor
unfoldable pub used_by : ℕ → JobRecord → ℕ
used_by now job = cpus_held job * (now - unwrap_or job.started 0)

-- what it has used when it leaves Running by becoming another
unfoldable pub used_when_left : ℕ → JobRecord → JobRecord → ℕ
used_when_left now job after = if is_running job.state && not (is_running after.state) then used_by now job else 0

-- what those jobs of the association at a place have used that leave Running, where these jobs become those
unfoldable pub used_of : ℕ → List JobRecord → List JobRecord → ℕ → ℕ
used_of now jobs after place =
    sum_by
    (λ (one : JobRecord × JobRecord). if nat_eq one.0.assoc place then used_when_left now one.0 one.1 else 0)
    (zip jobs after)

-- a total with so much more, up to the greatest usage
abbrev pub grown : ℕ → ℕ → ℕ
grown total more = if nat_eq more 0 then total else min (total + more) greatest_usage

-- the totals of the associations once these jobs have become those
unfoldable pub charged : ℕ → List JobRecord → List JobRecord → List ℕ → List ℕ
charged now jobs after totals =
    map (λ (one : ℕ × ℕ). grown one.1 (used_of now jobs after one.0)) (enumerate_from 0 totals)

-- What a job may become at a moment but by a start: it stays its association's, and while it runs on it has used the
-- same.
pub record RunsOn (now : ℕ) (job after : JobRecord) : Type 0 where
  pub assoc : after.assoc ≡ job.assoc
  pub ran : is_running after.state ≡ true → is_running job.state ≡ true
  pub used : is_running after.state ≡ true → used_by now after ≡ used_by now job

-- Nothing starts at this moment, and whoever leaves Running is charged to its association.
pub record Charges (now : ℕ) (old new : JobsView) : Type 0 where
  pub each : AllZip (RunsOn now) old.records new.records
  pub usage : new.usage ≡ charged now old.records new.records old.usage

-- a change of this moment that starts nothing
abbrev pub IsNoStart : ℕ → Change → Type 0
IsNoStart now (Start moment parts nodes) = ⊥
IsNoStart now (Leave final moment exit) = moment ≡ now
IsNoStart now change = Unit {0}

-- what a job has used when a change takes it out of Running
unfoldable pub used_by_change : Change → JobRecord → ℕ
used_by_change (Leave final moment exit) job = if is_running job.state then used_by moment job else 0
used_by_change change job = 0

-- the totals of the associations once this job, if there is one, has changed
unfoldable pub charged_by : Change → Option JobRecord → List ℕ → List ℕ
charged_by change None totals = totals
charged_by change (Some job) totals = map_at job.assoc (λ total. grown total (used_by_change change job)) totals

-- the change is a start
abbrev pub is_start : Change → Bool
is_start (Start moment parts nodes) = true
is_start change = false

-- Nothing is charged where nothing changes; one walk after another is one walk.
abbrev pub NothingCharged : Type 0
NothingCharged = (now : ℕ) (jobs : JobsView) → Charges now jobs jobs

abbrev pub ChargedOn : Type 0
ChargedOn = (now : ℕ) (old middle new : JobsView)
    → Charges now old middle → Charges now middle new → Charges now old new

-- A change that starts nothing is one of these; so is no change.
abbrev pub ChangesRunOn : Type 0
ChangesRunOn = (now : ℕ) (change : Change) (job : JobRecord)
    → IsNoStart now change → RunsOn now job (changed change job)

abbrev pub StaysOn : Type 0
StaysOn = (now : ℕ) (job : JobRecord) → RunsOn now job job

abbrev pub RunsOnTwice : Type 0
RunsOnTwice = (now : ℕ) (job middle after : JobRecord)
    → RunsOn now job middle → RunsOn now middle after → RunsOn now job after
