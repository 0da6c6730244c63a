-- Which limits a job reaches beside jobs that hold processors.
use Rattle.std.specs.Prelude.{ℕ, ◌+◌, Bool, false, nat_lt, nat_le, if◌then◌else◌, List, [], ◌∷◌, ◌++◌, map, Option, Some, None}
use Rattle.std.specs.List.{list_any}
use Rattle.plain_data.specs.declared.assoc.QosLimits.{QosLimits}
use Rattle.request_data.specs.declared.state.Reason.{Reason}
use Rattle.request_data.specs.declared.state.Reason.TheVariants.{JobArrayTaskLimit, AssocGrpJobsLimit, AssocGrpCpuLimit, AssocMaxJobsLimit, QosGrpJobsLimit, QosGrpCpuLimit, QosMaxJobsPerUserLimit, QosMaxCpuPerUserLimit}
use Rattle.run_limits.specs.declared.record.AssocRecord.{AssocRecord}
use Rattle.run_limits.specs.declared.record.QosRecord.{QosRecord}
use Rattle.run_limits.specs.Accounts.{above, limits_at, qos_limits_at}
use Rattle.run_limits.specs.declared.counted.Counted.{Counted}
use Rattle.run_limits.specs.declared.counted.Counts.{Counts}
use Rattle.run_limits.specs.declared.counted.Group.{Group}
use Rattle.run_limits.specs.declared.counted.Group.TheVariants.{Array, Below, InQos, OfUser}
use Rattle.run_limits.specs.Counting.{counts_of, is_in}

-- a reason that stands where this is so
abbrev pub reason_if : Bool → Reason → Option Reason
reason_if stands reason = if stands then Some reason else None

-- the first reason that stands
abbrev pub first_reason : List (Option Reason) → Option Reason
first_reason [] = None
first_reason (None ∷ later) = first_reason later
first_reason (Some reason ∷ later) = Some reason

-- a number is above a limit; without a limit none is
abbrev pub is_above : Option ℕ → ℕ → Bool
is_above None number = false
is_above (Some limit) number = nat_lt limit number

-- the limit that stands nearest on the way up
abbrev pub nearest : List (Option ℕ) → Option ℕ
nearest [] = None
nearest (None ∷ later) = nearest later
nearest (Some limit ∷ later) = Some limit

-- What one more job is counted beside: the accounts, the qualities of service, and the jobs that hold processors.
pub record Beside : Type 0 where
  pub assocs : List AssocRecord
  pub qos : List QosRecord
  pub holding : List Counted

-- what those of a group count
abbrev pub counts_in : Beside → Group → Counts
counts_in beside group = counts_of (is_in beside.assocs group) beside.holding

-- as many tasks of the job's array hold processors as may at once
abbrev pub is_full : Beside → Option ℕ → Option ℕ → Bool
is_full beside (Some array) (Some most) = nat_le most (counts_in beside (Array array)).jobs
is_full beside array most = false

-- the job would be one too many, or have too many processors, for the association at a place
abbrev pub has_jobs_too_many : Beside → ℕ → Bool
has_jobs_too_many beside place =
    is_above (limits_at beside.assocs place).grp_jobs ((counts_in beside (Below place)).jobs + 1)

abbrev pub has_cpus_too_many : Beside → ℕ → ℕ → Bool
has_cpus_too_many beside cpus place =
    is_above (limits_at beside.assocs place).grp_cpus ((counts_in beside (Below place)).cpus + cpus)

-- how many jobs of a user's association may hold processors at once
abbrev pub most_jobs : Beside → ℕ → Option ℕ
most_jobs beside assoc =
    nearest (map (λ place. (limits_at beside.assocs place).max_jobs) (above beside.assocs assoc))

-- the limits of the job's association, and of those above it, that it reaches
abbrev pub assoc_limits_reached : Beside → Counted → List (Option Reason)
assoc_limits_reached beside job =
    reason_if (list_any (has_jobs_too_many beside) (above beside.assocs job.assoc)) AssocGrpJobsLimit
    ∷ reason_if (list_any (has_cpus_too_many beside job.cpus) (above beside.assocs job.assoc)) AssocGrpCpuLimit
    ∷ reason_if (is_above (most_jobs beside job.assoc) ((counts_in beside
    (Below job.assoc)).jobs + 1)) AssocMaxJobsLimit
    ∷ []

-- the limits of the job's quality of service that it reaches, with what those in it, and those of its user in it, count
abbrev pub qos_limits_reached : QosLimits → Counts → Counts → ℕ → List (Option Reason)
qos_limits_reached limits all users cpus =
    reason_if (is_above limits.grp_jobs (all.jobs + 1)) QosGrpJobsLimit
    ∷ reason_if (is_above limits.grp_cpus (all.cpus + cpus)) QosGrpCpuLimit
    ∷ reason_if (is_above limits.user_jobs (users.jobs + 1)) QosMaxJobsPerUserLimit
    ∷ reason_if (is_above limits.user_cpus (users.cpus + cpus)) QosMaxCpuPerUserLimit
    ∷ []

-- The limits that a job reaches, of whose array so many tasks may hold processors at once, in their order.
unfoldable pub limits_reached : Beside → Counted → Option ℕ → List (Option Reason)
limits_reached beside job most =
    reason_if (is_full beside job.array most) JobArrayTaskLimit
    ∷ (assoc_limits_reached beside job
    ++ qos_limits_reached (qos_limits_at beside.qos job.qos) (counts_in beside (InQos job.qos))
    (counts_in beside (OfUser job.assoc job.qos)) job.cpus)
