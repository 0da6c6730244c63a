-- What an event may make of the jobs: it lets go of parts, or a job that waits takes parts that are free.
use Rattle.std.specs.Prelude.{◌≡◌, ℕ, ◌+◌, ◌≤◌, Bool, true, false, not, List, map, filter, All, Contains, Option, Some, None}
use Rattle.node_state.specs.declared.record.NodeRecord.{NodeRecord}
use Rattle.job_table.specs.declared.record.Part.{Part}
use Rattle.job_table.specs.declared.record.JobRecord.{JobRecord}
use Rattle.backfill_planner.specs.declared.Placed.{Placed}
use Rattle.job_table.specs.declared.change.Change.{Change}
use Rattle.job_table.specs.declared.change.Change.TheVariants.{Start, Leave, CancelPending, CancelRequeue, DropPart, SetHold, SetLimit, SetNice}
use Rattle.job_table.specs.JobStates.{is_holding, is_pending}
use Rattle.job_table.specs.Table.{changed_if, job_with}
use Rattle.job_table.specs.Usage.{charged}
use Rattle.ctl_state.specs.Holding.{IsPartOf, OnNodesApart, has_members, times_held, mem_held, mem_of, parts_of}
use Rattle.ctl_state.specs.Planning.{room_of}
use Rattle.ctl_state.specs.State.{State}
use Rattle.ctl_state.specs.Soundness.{AreUp, IsSettled, IsLimit, IsWellRun, pending_ids}

-- What an event that starts nothing may make of a job: it keeps its number, its array, its user with his association,
-- its quality of service, its partition and some of its parts.
pub record LetsGo (now : ℕ) (job after : JobRecord) : Type 0 where
  pub id : after.id ≡ job.id
  pub array : after.array ≡ job.array
  pub user : after.user ≡ job.user
  pub assoc : after.assoc ≡ job.assoc
  pub qos : after.qos ≡ job.qos
  pub partition : after.partition ≡ job.partition
  pub keep : Part → Bool
  pub parts : after.parts ≡ filter keep job.parts
  pub some : has_members after.parts ≡ is_holding after.state
  pub terms : IsSettled after.terms
  pub limit : IsLimit after.limit
  pub run : IsWellRun now after

-- a change that an event of this moment may make, and that starts nothing: what it sets is in its range
abbrev pub FitsChange : ℕ → Change → Type 0
FitsChange now (Start moment parts nodes) = ⊥
FitsChange now (Leave final moment exit) = moment ≡ now
FitsChange now (CancelPending moment) = moment ≡ now
FitsChange now CancelRequeue = Unit {0}
FitsChange now (DropPart node moment) = moment ≡ now
FitsChange now (SetHold by) = Unit {0}
FitsChange now (SetLimit limit) = IsLimit limit
FitsChange now (SetNice nice) = Unit {0}

-- the state once its jobs have become these: whoever leaves Running is charged to his association
abbrev pub become : ℕ → List JobRecord → State → State
become now jobs s = record s { jobs = jobs; usage = charged now s.jobs jobs s.usage }

-- the jobs once each has changed, and those that go are gone
abbrev pub those_left : (JobRecord → JobRecord) → (JobRecord → Bool) → List JobRecord → List JobRecord
those_left change goes jobs = filter (λ job. not (goes job)) (map change jobs)

-- the job with this number starts with these parts, on nodes of these names
abbrev pub started_as : ℕ → ℕ → List Part → List (List ℕ) → JobRecord → JobRecord
started_as now id parts nodes job = changed_if id (Start now parts nodes) job

-- the job is there, and waits
abbrev pub waits : Option JobRecord → Bool
waits None = false
waits (Some job) = is_pending job.state

-- the placements of those that still wait
abbrev pub plan_left : List JobRecord → List Placed → List Placed
plan_left jobs plan = filter (λ (placed : Placed). waits (job_with placed.id jobs)) plan

-- parts that a waiting job may take: on nodes that differ and are up, of processors that stand in no part, with memory
-- for all
pub record MayTake (nodes : List NodeRecord) (jobs : List JobRecord) (id : ℕ) (parts : List Part) : Type 0 where
  pub waits : Contains (pending_ids jobs) id
  pub some : has_members parts ≡ true
  pub each : All (IsPartOf (map room_of nodes)) parts
  pub up : AreUp nodes parts
  pub apart : OnNodesApart parts
  pub unheld : All (λ (part : Part). All (λ cpu. times_held (parts_of jobs) part.node cpu ≡ 0) part.cpus) parts
  pub mem : (node : ℕ) → mem_held (parts_of jobs) node + mem_held parts node ≤ mem_of (map room_of nodes) node
