-- Which limits on jobs that haven't ended new jobs exceed.
use Rattle.std.specs.Prelude.{ℕ, ◌+◌, if◌then◌else◌, nat_lt, List, [], ◌∷◌, ◌++◌, map, Option, Some, None}
use Rattle.reply_data.specs.declared.refusal.Refusal.{Refusal}
use Rattle.reply_data.specs.declared.refusal.Refusal.TheVariants.{SubmitLimit}
use Rattle.reply_data.specs.declared.refusal.Which.{Which}
use Rattle.reply_data.specs.declared.refusal.Which.TheVariants.{AssocMaxSubmitJobs, AssocGrpSubmitJobs, QosGrpSubmitJobs, QosMaxSubmitJobsPerUser}
use Rattle.run_limits.specs.Accounts.{above, limits_at, qos_limits_at}
use Rattle.run_limits.specs.declared.counted.Counted.{Counted}
use Rattle.run_limits.specs.declared.counted.Group.TheVariants.{Below, InQos, OfUser}
use Rattle.run_limits.specs.Limits.{Beside, counts_in, nearest}

-- a limit that so many jobs exceed
abbrev pub exceeded : Which → Option ℕ → ℕ → Option Refusal
exceeded which None jobs = None
exceeded which (Some limit) jobs = if nat_lt limit jobs then Some (SubmitLimit which limit) else None

-- Why so many new jobs like this one are refused beside those that haven't ended, in their order.
unfoldable pub submit_limits : Beside → Counted → ℕ → List (Option Refusal)
submit_limits beside job new =
    exceeded AssocMaxSubmitJobs
    (nearest (map (λ place. (limits_at beside.assocs place).max_submit) (above beside.assocs job.assoc)))
    ((counts_in beside (Below job.assoc)).jobs + new)
    ∷ (map
    (λ place. exceeded AssocGrpSubmitJobs (limits_at beside.assocs place).grp_submit
    ((counts_in beside (Below place)).jobs + new))
    (above beside.assocs job.assoc)
    ++ exceeded QosGrpSubmitJobs (qos_limits_at beside.qos job.qos).grp_submit ((counts_in beside
    (InQos job.qos)).jobs + new)
    ∷ exceeded QosMaxSubmitJobsPerUser (qos_limits_at beside.qos job.qos).user_submit
    ((counts_in beside (OfUser job.assoc job.qos)).jobs + new)
    ∷ [])

-- the first refusal that stands
abbrev pub first_refusal : List (Option Refusal) → Option Refusal
first_refusal [] = None
first_refusal (None ∷ later) = first_refusal later
first_refusal (Some refusal ∷ later) = Some refusal
