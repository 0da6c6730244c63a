-- The first limit that new jobs exceed.
use Rattle.std.proofs.Common.{◌≡◌, ℕ, ◌+◌, List, [], ◌∷◌, ◌++◌, map, Option, Some, None, refl, ap, sym, ◌∙◌}
use Rattle.std.proofs.Math.Path.{fun_ext}
use Rattle.std.specs.Option.{option_or}
use Rattle.reply_data.specs.declared.refusal.Refusal.{Refusal}
use Rattle.reply_data.specs.declared.refusal.Which.TheVariants.{AssocMaxSubmitJobs, AssocGrpSubmitJobs, QosGrpSubmitJobs, QosMaxSubmitJobsPerUser}
use Rattle.run_limits.specs.Accounts.{above, limits_at, qos_limits_at}
use Rattle.run_limits.specs.declared.counted.Counted.{Counted}
use Rattle.run_limits.specs.declared.counted.Group.{Group}
use Rattle.run_limits.specs.declared.counted.Group.TheVariants.{Below, InQos, OfUser}
use Rattle.run_limits.specs.Limits.{Beside, counts_in, nearest}
use Rattle.run_limits.specs.Submitting.{exceeded, first_refusal, submit_limits}

first-append : (some others : List (Option Refusal)) → first_refusal (some ++ others)
    ≡ option_or (first_refusal some) (first_refusal others)
first-append [] others = refl
first-append (None ∷ some) others = first-append some others
first-append (Some refusal ∷ some) others = refl

-- the limits, where groups have so many jobs: the own one, those of places, and those of the quality of service
abbrev pub own_by : (Group → ℕ) → Beside → Counted → ℕ → Option Refusal
own_by jobs beside job new =
    exceeded AssocMaxSubmitJobs (nearest (map (λ place. (limits_at beside.assocs place).max_submit)
    (above beside.assocs job.assoc))) (jobs (Below job.assoc) + new)

abbrev pub groups_by : (Group → ℕ) → Beside → Counted → ℕ → List (Option Refusal)
groups_by jobs beside job new =
    map (λ place. exceeded AssocGrpSubmitJobs (limits_at beside.assocs place).grp_submit (jobs (Below place) + new))
    (above beside.assocs job.assoc)

abbrev pub qos_by : (Group → ℕ) → Beside → Counted → ℕ → List (Option Refusal)
qos_by jobs beside job new =
    exceeded QosGrpSubmitJobs (qos_limits_at beside.qos job.qos).grp_submit (jobs (InQos job.qos) + new)
    ∷ exceeded QosMaxSubmitJobsPerUser (qos_limits_at beside.qos job.qos).user_submit (jobs
    (OfUser job.assoc job.qos) + new)
    ∷ []

first-of : (own : Option Refusal) (groups qos : List (Option Refusal))
    → first_refusal (own ∷ (groups ++ qos)) ≡ option_or own (option_or (first_refusal groups) (first_refusal qos))
first-of None groups qos = first-append groups qos
first-of (Some refusal) groups qos = refl

pub submit_first : (beside : Beside) (job : Counted) (new : ℕ) (jobs : Group → ℕ) → ((group : Group) → jobs group
    ≡ (counts_in beside group).jobs)
    → first_refusal (submit_limits beside job new)
    ≡ option_or (own_by jobs beside job new) (option_or (first_refusal (groups_by jobs beside job new))
    (first_refusal (qos_by jobs beside job new)))
unfolding submit_limits
submit_first beside job new jobs same =
    ap (λ (count : Group → ℕ). first_refusal (own_by count beside job new ∷
    (groups_by count beside job new ++ qos_by count beside job new))) (sym (fun_ext same))
    ∙ first-of (own_by jobs beside job new) (groups_by jobs beside job new) (qos_by jobs beside job new)
