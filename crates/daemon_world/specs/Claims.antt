-- What a daemon runs or may launch, and what the controller holds for it.
use Rattle.std.specs.Prelude.{◌≡◌, ◌≤◌, ℕ, true, List, map, count_by, All, Any, Some}
use Rattle.plain_data.specs.Rows.{has_id}
use Rattle.request_data.specs.declared.report.Start.{Start}
use Rattle.request_data.specs.declared.report.Done.{Done}
use Rattle.reply_data.specs.declared.orders.Launch.{Launch}
use Rattle.reply_data.specs.declared.orders.Orders.{Orders}
use Rattle.node_state.specs.Nodes.{place_named}
use Rattle.job_table.specs.declared.record.Part.{Part}
use Rattle.job_table.specs.declared.record.JobRecord.{JobRecord}
use Rattle.ctl_state.specs.Soundness.{is_up_at}
use Rattle.ctl_state.specs.State.{State}
use Rattle.node_daemon.specs.Daemon.{Daemon, is_same}
use Rattle.node_daemon.specs.declared.running.Running.{Running}

-- a start with the processors that it has, or is to have, on a node
pub record Claim : Type 0 where
  pub start : Start
  pub cpus : List ℕ

-- what is claimed by a start that runs, and by one that is ordered
abbrev pub claim_run : Running → Claim
claim_run one = record { start = one.start; cpus = one.cpus }

abbrev pub claim_launch : Launch → Claim
claim_launch launch = record { start = launch.start; cpus = launch.cpus }

-- what the daemon's node runs
abbrev pub claims_of : Daemon → List Claim
claims_of daemon = map claim_run daemon.running

-- what it would run beside that if it took these orders
abbrev pub claims_ordered : Orders → List Claim
claims_ordered orders = map claim_launch orders.launches

-- how many of these have the processor
abbrev pub times_claimed : List Claim → ℕ → ℕ
times_claimed claims cpu = count_by (λ (claim : Claim). has_id claim.cpus cpu) claims

-- each processor of the node is of one start at most that runs there
abbrev pub RunsApart : Daemon → Type 0
RunsApart daemon = (cpu : ℕ) → times_claimed (claims_of daemon) cpu ≤ 1

-- how often the start stands among these, and among those that are over
abbrev pub times_claiming : List Claim → Start → ℕ
times_claiming claims start = count_by (λ (claim : Claim). is_same claim.start start) claims

abbrev pub times_over : List Done → Start → ℕ
times_over over start = count_by (λ (done : Done). is_same done.start start) over

-- no start runs there more than once
abbrev pub RunsOnce : Daemon → Type 0
RunsOnce daemon = (start : Start) → times_claiming (claims_of daemon) start ≤ 1

-- the part is of the node at a place, and has the processors that are claimed
abbrev pub IsClaimed : ℕ → Claim → Part → Type 0
IsClaimed place claim part = (part.node ≡ place) × (part.cpus ≡ claim.cpus)

-- the job holds what is claimed of the node at a place, by its last start
pub record Holds (place : ℕ) (claim : Claim) (job : JobRecord) : Type 0 where
  pub id : job.id ≡ claim.start.id
  pub number : job.starts ≡ claim.start.number
  pub part : Any (IsClaimed place claim) job.parts

-- one of the jobs does
abbrev pub IsHeldAt : List JobRecord → ℕ → Claim → Type 0
IsHeldAt jobs place claim = Any (Holds place claim) jobs

-- while the node isn't down, all of these are held there
abbrev pub AreHeld : State → List ℕ → List Claim → Type 0
AreHeld s node claims = (place : ℕ) → place_named node s.nodes ≡ Some place → is_up_at s.nodes place ≡ true
    → All (IsHeldAt s.jobs place) claims
